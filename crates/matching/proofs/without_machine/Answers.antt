-- `matching::without_machine` meets its contract: the length byte behind the step name is 0. Assumes nothing.
use Prim.Native.Nat.{ℕ}
use mathlib.Core.Path.{ap, sym, ◌∙◌}
use lib.Dec.{eqb}
use lib.ListN.{get_or}
use Rattle.format.specs.Matching.{no_machine}
use Rattle.format.specs.Items.{name_end}
use Rattle.format.specs.ItemLaws.{name_length}
use Rattle.matching.proofs.without_machine.Goals as goal

pub returns : goal.returns
unfolding no_machine
returns c =
    let s = c.args.names.now in
    ap (λ (m : ℕ). eqb (get_or s m 0) 0) c.end_of_name-machine.ensures
    ∙ ap (λ (n : ℕ). eqb n 0) (sym (name_length s (name_end s c.args.at) c.requires))
