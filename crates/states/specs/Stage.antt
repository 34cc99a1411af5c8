-- The scene and the notes of a state that a choice or a step changes, by what it goes by. Definitions only. Assumes nothing.
use Rattle.std.specs.Prelude.{◌≡◌, length}
use Rattle.states.specs.Rows.{Notes, notes}
use Rattle.states.specs.Scenes.{Scene, scene}
use Rattle.states.specs.declared.Basis.{Basis}
use Rattle.states.specs.declared.Moving.{Moving}

abbrev pub scene_at : Basis → Moving → Scene
scene_at by s = scene by.ns.now s.t.now by.a

abbrev pub notes_at : Basis → Moving → Notes
notes_at by s = notes s.c by.d.now

-- the modes are still those that were lent, and as many
pub record SameLent (s s' : Moving) : Type 0 where
  pub name : s'.t.ghost_name ≡ s.t.ghost_name
  pub long : length s'.t.now ≡ length s.t.now
