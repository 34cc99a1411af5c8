-- Whether what is kept is right, in any role: together and one by one, and what a node's own entry is then. Assumes nothing.
use Rattle.std.specs.Prelude.{ℕ, ◌≡◌, Bool, List, eqb}
use Rattle.std.proofs.Common.{sym, eq-eqb}
use Rattle.std.proofs.Math.Path.{subst}
use Rattle.std.proofs.Math.Dec.{T, eqb→eq}
use Rattle.calculus.proofs.Members.{and_in, and_left, and_right}
use Rattle.flow.specs.Kinds.{shape}
use Rattle.flow.specs.Trees.{Tree}
use Rattle.tallies.specs.Counts.{moves, view, word}
use Rattle.tallies.specs.Bare.{bare_w}
use Rattle.states.specs.declared.Sense.TheVariants.{Undoing}
use Rattle.states.specs.declared.Role.{Role}
use Rattle.states.specs.declared.Role.TheVariants.{Plain, Running}
use Rattle.states.specs.State.{part}
use Rattle.states.specs.Stored.{Right, together, held_word, counted_std, own, noted, stored}
use Rattle.states.specs.StateLaws.{held_stored}
use Rattle.states.specs.Rows.{same_row, Entry}
use Rattle.states.specs.RowLaws.{row_same}
use Rattle.states.specs.Roles.{get, many, look, Keeps, ok}

together_in : (r : Role) (x y : Right) → T (ok r x) → T (ok r y) → T (ok r (together x y))
together_in (Plain s) x y h k = and_in (x.std s) (y.std s) h k
together_in Running x y h k = and_in x.run y.run h k

together_one : (r : Role) (x y : Right) → T (ok r (together x y)) → T (ok r x)
together_one (Plain s) x y h = and_left (x.std s) (y.std s) h
together_one Running x y h = and_left x.run y.run h

together_other : (r : Role) (x y : Right) → T (ok r (together x y)) → T (ok r y)
together_other (Plain s) x y h = and_right (x.std s) (y.std s) h
together_other Running x y h = and_right x.run y.run h

module _ (ns : List ℕ) (a : ℕ) (m : ℕ → ℕ) (c : ℕ → Entry) (i : ℕ) where
  own_count_of : (r : Role) → T (ok r (own ns a m c i)) → (c i).steps ≡ many r a (part ns m i)
  unfolding own
  own_count_of (Plain s) t = eqb→eq _ _ t
  own_count_of Running t = eqb→eq _ _ (and_left (eqb (c i).steps (many Running a (part ns m i))) (same_row (c i).row (word a (part ns m i).run)) t)

  -- the count of a node that is noted
  pub own_count : (r : Role) → T (ok r (noted ns a m c i)) → (c i).steps ≡ many r a (part ns m i)
  own_count r t = own_count_of r (together_one r (own ns a m c i) (stored ns a m c i) t)

  pub noted_stored : (r : Role) → T (ok r (noted ns a m c i)) → T (ok r (stored ns a m c i))
  noted_stored r t = together_other r (own ns a m c i) (stored ns a m c i) t

  -- the row of one that runs
  pub own_row : T (noted ns a m c i).run → T (same_row (c i).row (word a (part ns m i).run))
  unfolding own
  own_row t = and_right (eqb (c i).steps (many Running a (part ns m i))) (same_row (c i).row (word a (part ns m i).run)) (together_one Running (own ns a m c i) (stored ns a m c i) t)

  counted_run : (c i).steps ≡ (word a (part ns m i).run).moves → T (eqb (c i).steps (many Running a (part ns m i)))
  unfolding word
  counted_run e = subst T (sym (eq-eqb (c i).steps _ e)) tt

  own_right : (r : Role) → Keeps r (c i) (look r a (get r (part ns m i))) → T (ok r (own ns a m c i))
  unfolding own view moves
  own_right (Plain s) e = subst T (sym (eq-eqb (c i).steps _ e)) tt
  own_right Running e = and_in (eqb (c i).steps (many Running a (part ns m i))) (same_row (c i).row (word a (part ns m i).run)) (counted_run e.0) (row_same _ _ e.1)

  -- an entry that keeps what is seen is right
  pub noted_in : (r : Role) → Keeps r (c i) (look r a (get r (part ns m i))) → T (ok r (stored ns a m c i)) → T (ok r (noted ns a m c i))
  noted_in r e t = together_in r (own ns a m c i) (stored ns a m c i) (own_right r e) t

  -- What is held -----------------------------------------------------------------------------------------------------------

  abbrev held_own : Bool
  held_own = same_row (c i).row (held_word a ((part ns m i).std Undoing))

  module _ (tree : Tree (shape ns)) where
    pub held_noted : T (noted ns a m c i).held → T ((noted ns a m c i).std Undoing)
    unfolding own
    held_noted t = and_in (counted_std ns a m c Undoing i) ((stored ns a m c i).std Undoing)
        (and_left (counted_std ns a m c Undoing i) held_own (and_left (own ns a m c i).held (stored ns a m c i).held t))
        (subst T (held_stored ns tree a m c i) (and_right (own ns a m c i).held (stored ns a m c i).held t))

    pub held_row : T (noted ns a m c i).held → T held_own
    unfolding own
    held_row t = and_right (counted_std ns a m c Undoing i) held_own (and_left (own ns a m c i).held (stored ns a m c i).held t)

    pub held_in : T ((noted ns a m c i).std Undoing) → (c i).row ≡ bare_w (held_word a ((part ns m i).std Undoing)) → T (noted ns a m c i).held
    unfolding own
    held_in t e = and_in (own ns a m c i).held (stored ns a m c i).held
        (and_in (counted_std ns a m c Undoing i) held_own (and_left (counted_std ns a m c Undoing i) ((stored ns a m c i).std Undoing) t) (row_same _ _ e))
        (subst T (sym (held_stored ns tree a m c i)) (and_right (counted_std ns a m c Undoing i) ((stored ns a m c i).std Undoing) t))
