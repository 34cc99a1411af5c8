-- `flow::check_node` meets its contract: each return rewrites with the conditions that led there. Assumes nothing.
use Prim.Native.Nat.{ℕ, ◌+◌}
use mathlib.Core.Path.{◌≡◌, sym, ap, ap₂, ◌∙◌, subst}
use mathlib.Core.Bool.{true, false, not, ◌&&◌}
use lib.Dec.{ltb, leb}
use Rattle.std.specs.Prelude.{Result, Ok, ⊤}
use Rattle.flow.specs.declared.Refusal.{Refusal}
use Rattle.flow.specs.declared.Form.{Form}
use Rattle.flow.specs.Kinds.{node, form, most_sets, set_number}
use Rattle.flow.specs.Refusals.{unknown_kind, no_such_set, wrong_field, not_lower, wrong_sort, child_taken, node_grounds}
use Rattle.flow.specs.Checks.{refused, first, answer, or_else_check}
use Rattle.flow.specs.FirstRefusal.{IsFine}
use Rattle.flow.specs.Forms.{children, field_fault, low_fault, sort_fault, taken_fault, with_children, Within, Marks}
use Rattle.flow.specs.Children.{field_by_fields, low_by_fields, within_by_lower, sort_by_sorts, taken_by_marks, marks_more, sorts_more}
use Rattle.flow.proofs.check_node.Goals as goal

-- no refusal is fine
not-fine : {A : Type 0} {x : Result ⊤ Refusal} (number place : ℕ) → x ≡ refused number place → x ≡ Ok tt → A
not-fine number place e f = absurd (subst IsFine (sym f ∙ e) tt)

pub returns-then-not-asked : goal.returns-then-not-asked
unfolding first node_grounds answer or_else_check unknown_kind
returns-then-not-asked c =
    let asked : c.form_of-asked.result ≡ form (node c.args.nodes.now c.args.i) = c.form_of-asked.ensures ∙ ap form c.node_at-decoded.ensures in
    let of_4 : not c.form_of-asked.result.known ≡ unknown_kind c.args.nodes.now c.args.i = ap (λ (f : Form). not f.known) (asked) in
    let e4 : unknown_kind c.args.nodes.now c.args.i ≡ true = sym (of_4) ∙ c.if-not-asked.true in record {
      value = rw (c.refuse.ensures, e4);
      children_noted = not-fine 4 c.args.i c.refuse.ensures;
    }

pub returns-then-no_such_set : goal.returns-then-no_such_set
unfolding first node_grounds answer or_else_check unknown_kind no_such_set
returns-then-no_such_set c =
    let asked : c.form_of-asked.result ≡ form (node c.args.nodes.now c.args.i) = c.form_of-asked.ensures ∙ ap form c.node_at-decoded.ensures in
    let of_4 : not c.form_of-asked.result.known ≡ unknown_kind c.args.nodes.now c.args.i = ap (λ (f : Form). not f.known) (asked) in
    let of_22 : c.no_such_set.result ≡ no_such_set c.args.nodes.now c.args.i c.args.many = let many = c.args.many in
    c.no_such_set.ensures ∙ ap (λ (k : ℕ). ltb k most_sets && leb many k) (c.set_number.ensures ∙ ap set_number c.node_at-decoded.ensures) in
    let e4 : unknown_kind c.args.nodes.now c.args.i ≡ false = sym (of_4) ∙ c.if-not-asked.false in
    let e22 : no_such_set c.args.nodes.now c.args.i c.args.many ≡ true = sym (of_22) ∙ c.if-no_such_set.true in record {
      value = rw (c.refuse-then-no_such_set.ensures, e4, e22);
      children_noted = not-fine 22 c.args.i c.refuse-then-no_such_set.ensures;
    }

pub children_of-children-requires : goal.children_of-children-requires
children_of-children-requires c =
    let asked : c.form_of-asked.result ≡ form (node c.args.nodes.now c.args.i) = c.form_of-asked.ensures ∙ ap form c.node_at-decoded.ensures in record {
      i_in_bounds = c.requires.i_in_bounds;
      asked_is = asked;
    }

pub returns-then-wrong_field : goal.returns-then-wrong_field
unfolding first node_grounds answer or_else_check unknown_kind no_such_set
returns-then-wrong_field c =
    let asked : c.form_of-asked.result ≡ form (node c.args.nodes.now c.args.i) = c.form_of-asked.ensures ∙ ap form c.node_at-decoded.ensures in
    let of_4 : not c.form_of-asked.result.known ≡ unknown_kind c.args.nodes.now c.args.i = ap (λ (f : Form). not f.known) (asked) in
    let of_22 : c.no_such_set.result ≡ no_such_set c.args.nodes.now c.args.i c.args.many = let many = c.args.many in
    c.no_such_set.ensures ∙ ap (λ (k : ℕ). ltb k most_sets && leb many k) (c.set_number.ensures ∙ ap set_number c.node_at-decoded.ensures) in
    let of_5 : c.wrong_field.result ≡ wrong_field c.args.nodes.now c.args.i = c.wrong_field.ensures
    ∙ (λ z. field_fault (asked z) (c.first_at.ensures z) (c.second_at.ensures z))
    ∙ field_by_fields c.args.nodes.now c.args.i in
    let e4 : unknown_kind c.args.nodes.now c.args.i ≡ false = sym (of_4) ∙ c.if-not-asked.false in
    let e22 : no_such_set c.args.nodes.now c.args.i c.args.many ≡ false = sym (of_22) ∙ c.if-no_such_set.false in
    let e5 : wrong_field c.args.nodes.now c.args.i ≡ true = sym (of_5) ∙ c.if-wrong_field.true in record {
      value = rw (c.refuse-then-wrong_field.ensures, e4, e22, e5);
      children_noted = not-fine 5 c.args.i c.refuse-then-wrong_field.ensures;
    }

pub returns-then-not_lower : goal.returns-then-not_lower
unfolding first node_grounds answer or_else_check unknown_kind no_such_set
returns-then-not_lower c =
    let asked : c.form_of-asked.result ≡ form (node c.args.nodes.now c.args.i) = c.form_of-asked.ensures ∙ ap form c.node_at-decoded.ensures in
    let of_4 : not c.form_of-asked.result.known ≡ unknown_kind c.args.nodes.now c.args.i = ap (λ (f : Form). not f.known) (asked) in
    let of_22 : c.no_such_set.result ≡ no_such_set c.args.nodes.now c.args.i c.args.many = let many = c.args.many in
    c.no_such_set.ensures ∙ ap (λ (k : ℕ). ltb k most_sets && leb many k) (c.set_number.ensures ∙ ap set_number c.node_at-decoded.ensures) in
    let of_5 : c.wrong_field.result ≡ wrong_field c.args.nodes.now c.args.i = c.wrong_field.ensures
    ∙ (λ z. field_fault (asked z) (c.first_at.ensures z) (c.second_at.ensures z))
    ∙ field_by_fields c.args.nodes.now c.args.i in
    let of_6 : c.not_lower.result ≡ not_lower c.args.nodes.now c.args.i = c.not_lower.ensures ∙ ap (low_fault c.args.i) c.children_of-children.ensures ∙ low_by_fields c.args.nodes.now c.args.i in
    let e4 : unknown_kind c.args.nodes.now c.args.i ≡ false = sym (of_4) ∙ c.if-not-asked.false in
    let e22 : no_such_set c.args.nodes.now c.args.i c.args.many ≡ false = sym (of_22) ∙ c.if-no_such_set.false in
    let e5 : wrong_field c.args.nodes.now c.args.i ≡ false = sym (of_5) ∙ c.if-wrong_field.false in
    let e6 : not_lower c.args.nodes.now c.args.i ≡ true = sym (of_6) ∙ c.if-not_lower.true in record {
      value = rw (c.refuse-then-not_lower.ensures, e4, e22, e5, e6);
      children_noted = not-fine 6 c.args.i c.refuse-then-not_lower.ensures;
    }

pub wrong_sort-requires : goal.wrong_sort-requires
wrong_sort-requires c =
    let of_6 : c.not_lower.result ≡ not_lower c.args.nodes.now c.args.i = c.not_lower.ensures ∙ ap (low_fault c.args.i) c.children_of-children.ensures ∙ low_by_fields c.args.nodes.now c.args.i in
    let lower : not_lower c.args.nodes.now c.args.i ≡ false = sym (of_6) ∙ c.if-not_lower.false in
    let within : Within c.children_of-children.result = subst Within (sym c.children_of-children.ensures) (within_by_lower c.args.nodes.now c.args.i c.requires.i_bound (lower)) in
    within

pub returns-then-wrong_sort : goal.returns-then-wrong_sort
unfolding first node_grounds answer or_else_check unknown_kind no_such_set
returns-then-wrong_sort c =
    let asked : c.form_of-asked.result ≡ form (node c.args.nodes.now c.args.i) = c.form_of-asked.ensures ∙ ap form c.node_at-decoded.ensures in
    let of_4 : not c.form_of-asked.result.known ≡ unknown_kind c.args.nodes.now c.args.i = ap (λ (f : Form). not f.known) (asked) in
    let of_22 : c.no_such_set.result ≡ no_such_set c.args.nodes.now c.args.i c.args.many = let many = c.args.many in
    c.no_such_set.ensures ∙ ap (λ (k : ℕ). ltb k most_sets && leb many k) (c.set_number.ensures ∙ ap set_number c.node_at-decoded.ensures) in
    let of_5 : c.wrong_field.result ≡ wrong_field c.args.nodes.now c.args.i = c.wrong_field.ensures
    ∙ (λ z. field_fault (asked z) (c.first_at.ensures z) (c.second_at.ensures z))
    ∙ field_by_fields c.args.nodes.now c.args.i in
    let of_6 : c.not_lower.result ≡ not_lower c.args.nodes.now c.args.i = c.not_lower.ensures ∙ ap (low_fault c.args.i) c.children_of-children.ensures ∙ low_by_fields c.args.nodes.now c.args.i in
    let lower : not_lower c.args.nodes.now c.args.i ≡ false = sym (of_6) ∙ c.if-not_lower.false in
    let of_7 : c.wrong_sort.result ≡ wrong_sort c.args.nodes.now c.args.i = c.wrong_sort.ensures
    ∙ ap₂ (sort_fault c.args.sorts.now) c.children_of-children.ensures (ap (λ (f : Form). f.inner) (asked))
    ∙ sort_by_sorts c.args.nodes.now c.args.i c.args.sorts.now c.requires.marks.1 (lower) in
    let e4 : unknown_kind c.args.nodes.now c.args.i ≡ false = sym (of_4) ∙ c.if-not-asked.false in
    let e22 : no_such_set c.args.nodes.now c.args.i c.args.many ≡ false = sym (of_22) ∙ c.if-no_such_set.false in
    let e5 : wrong_field c.args.nodes.now c.args.i ≡ false = sym (of_5) ∙ c.if-wrong_field.false in
    let e6 : not_lower c.args.nodes.now c.args.i ≡ false = sym (of_6) ∙ c.if-not_lower.false in
    let e7 : wrong_sort c.args.nodes.now c.args.i ≡ true = sym (of_7) ∙ c.if-wrong_sort.true in record {
      value = rw (c.refuse-then-wrong_sort.ensures, e4, e22, e5, e6, e7);
      children_noted = not-fine 7 c.args.i c.refuse-then-wrong_sort.ensures;
    }

pub child_taken-requires : goal.child_taken-requires
child_taken-requires c =
    let of_6 : c.not_lower.result ≡ not_lower c.args.nodes.now c.args.i = c.not_lower.ensures ∙ ap (low_fault c.args.i) c.children_of-children.ensures ∙ low_by_fields c.args.nodes.now c.args.i in
    let lower : not_lower c.args.nodes.now c.args.i ≡ false = sym (of_6) ∙ c.if-not_lower.false in
    let within : Within c.children_of-children.result = subst Within (sym c.children_of-children.ensures) (within_by_lower c.args.nodes.now c.args.i c.requires.i_bound (lower)) in
    within

pub returns-then-child_taken : goal.returns-then-child_taken
unfolding first node_grounds answer or_else_check unknown_kind no_such_set
returns-then-child_taken c =
    let asked : c.form_of-asked.result ≡ form (node c.args.nodes.now c.args.i) = c.form_of-asked.ensures ∙ ap form c.node_at-decoded.ensures in
    let of_4 : not c.form_of-asked.result.known ≡ unknown_kind c.args.nodes.now c.args.i = ap (λ (f : Form). not f.known) (asked) in
    let of_22 : c.no_such_set.result ≡ no_such_set c.args.nodes.now c.args.i c.args.many = let many = c.args.many in
    c.no_such_set.ensures ∙ ap (λ (k : ℕ). ltb k most_sets && leb many k) (c.set_number.ensures ∙ ap set_number c.node_at-decoded.ensures) in
    let of_5 : c.wrong_field.result ≡ wrong_field c.args.nodes.now c.args.i = c.wrong_field.ensures
    ∙ (λ z. field_fault (asked z) (c.first_at.ensures z) (c.second_at.ensures z))
    ∙ field_by_fields c.args.nodes.now c.args.i in
    let of_6 : c.not_lower.result ≡ not_lower c.args.nodes.now c.args.i = c.not_lower.ensures ∙ ap (low_fault c.args.i) c.children_of-children.ensures ∙ low_by_fields c.args.nodes.now c.args.i in
    let lower : not_lower c.args.nodes.now c.args.i ≡ false = sym (of_6) ∙ c.if-not_lower.false in
    let of_7 : c.wrong_sort.result ≡ wrong_sort c.args.nodes.now c.args.i = c.wrong_sort.ensures
    ∙ ap₂ (sort_fault c.args.sorts.now) c.children_of-children.ensures (ap (λ (f : Form). f.inner) (asked))
    ∙ sort_by_sorts c.args.nodes.now c.args.i c.args.sorts.now c.requires.marks.1 (lower) in
    let of_8 : c.child_taken.result ≡ child_taken c.args.nodes.now c.args.i = c.child_taken.ensures
    ∙ ap (taken_fault c.args.marks.now) c.children_of-children.ensures
    ∙ taken_by_marks c.args.nodes.now c.args.i c.args.marks.now c.requires.marks.0 c.requires.i_bound (lower) in
    let e4 : unknown_kind c.args.nodes.now c.args.i ≡ false = sym (of_4) ∙ c.if-not-asked.false in
    let e22 : no_such_set c.args.nodes.now c.args.i c.args.many ≡ false = sym (of_22) ∙ c.if-no_such_set.false in
    let e5 : wrong_field c.args.nodes.now c.args.i ≡ false = sym (of_5) ∙ c.if-wrong_field.false in
    let e6 : not_lower c.args.nodes.now c.args.i ≡ false = sym (of_6) ∙ c.if-not_lower.false in
    let e7 : wrong_sort c.args.nodes.now c.args.i ≡ false = sym (of_7) ∙ c.if-wrong_sort.false in
    let e8 : child_taken c.args.nodes.now c.args.i ≡ true = sym (of_8) ∙ c.if-child_taken.true in record {
      value = rw (c.refuse-then-child_taken.ensures, e4, e22, e5, e6, e7, e8);
      children_noted = not-fine 8 c.args.i c.refuse-then-child_taken.ensures;
    }

pub mark_children-requires : goal.mark_children-requires
mark_children-requires c =
    let of_6 : c.not_lower.result ≡ not_lower c.args.nodes.now c.args.i = c.not_lower.ensures ∙ ap (low_fault c.args.i) c.children_of-children.ensures ∙ low_by_fields c.args.nodes.now c.args.i in
    let lower : not_lower c.args.nodes.now c.args.i ≡ false = sym (of_6) ∙ c.if-not_lower.false in
    let within : Within c.children_of-children.result = subst Within (sym c.children_of-children.ensures) (within_by_lower c.args.nodes.now c.args.i c.requires.i_bound (lower)) in
    within

pub returns : goal.returns
unfolding first node_grounds answer or_else_check unknown_kind no_such_set
returns c =
    let asked : c.form_of-asked.result ≡ form (node c.args.nodes.now c.args.i) = c.form_of-asked.ensures ∙ ap form c.node_at-decoded.ensures in
    let of_4 : not c.form_of-asked.result.known ≡ unknown_kind c.args.nodes.now c.args.i = ap (λ (f : Form). not f.known) (asked) in
    let of_22 : c.no_such_set.result ≡ no_such_set c.args.nodes.now c.args.i c.args.many = let many = c.args.many in
    c.no_such_set.ensures ∙ ap (λ (k : ℕ). ltb k most_sets && leb many k) (c.set_number.ensures ∙ ap set_number c.node_at-decoded.ensures) in
    let of_5 : c.wrong_field.result ≡ wrong_field c.args.nodes.now c.args.i = c.wrong_field.ensures
    ∙ (λ z. field_fault (asked z) (c.first_at.ensures z) (c.second_at.ensures z))
    ∙ field_by_fields c.args.nodes.now c.args.i in
    let of_6 : c.not_lower.result ≡ not_lower c.args.nodes.now c.args.i = c.not_lower.ensures ∙ ap (low_fault c.args.i) c.children_of-children.ensures ∙ low_by_fields c.args.nodes.now c.args.i in
    let lower : not_lower c.args.nodes.now c.args.i ≡ false = sym (of_6) ∙ c.if-not_lower.false in
    let of_7 : c.wrong_sort.result ≡ wrong_sort c.args.nodes.now c.args.i = c.wrong_sort.ensures
    ∙ ap₂ (sort_fault c.args.sorts.now) c.children_of-children.ensures (ap (λ (f : Form). f.inner) (asked))
    ∙ sort_by_sorts c.args.nodes.now c.args.i c.args.sorts.now c.requires.marks.1 (lower) in
    let of_8 : c.child_taken.result ≡ child_taken c.args.nodes.now c.args.i = c.child_taken.ensures
    ∙ ap (taken_fault c.args.marks.now) c.children_of-children.ensures
    ∙ taken_by_marks c.args.nodes.now c.args.i c.args.marks.now c.requires.marks.0 c.requires.i_bound (lower) in
    let e4 : unknown_kind c.args.nodes.now c.args.i ≡ false = sym (of_4) ∙ c.if-not-asked.false in
    let e22 : no_such_set c.args.nodes.now c.args.i c.args.many ≡ false = sym (of_22) ∙ c.if-no_such_set.false in
    let e5 : wrong_field c.args.nodes.now c.args.i ≡ false = sym (of_5) ∙ c.if-wrong_field.false in
    let e6 : not_lower c.args.nodes.now c.args.i ≡ false = sym (of_6) ∙ c.if-not_lower.false in
    let e7 : wrong_sort c.args.nodes.now c.args.i ≡ false = sym (of_7) ∙ c.if-wrong_sort.false in
    let e8 : child_taken c.args.nodes.now c.args.i ≡ false = sym (of_8) ∙ c.if-child_taken.false in
    let ns = c.args.nodes.now in
    let i = c.args.i in
    let marks = marks_more ns i c.args.marks.now c.requires.marks.0 c.requires.i_bound e6 in
    let sorts = sorts_more ns i c.args.sorts.now c.requires.marks.1 c.requires.i_bound _ (ap (λ (f : Form). f.standard) (asked)) in
    let m : c.mark_children.new.marks ≡ with_children c.args.marks.now (children ns i) = c.mark_children.ensures ∙ ap (with_children c.args.marks.now) c.children_of-children.ensures in record {
      value = rw (e4, e22, e5, e6, e7, e8);
      children_noted = λ f. (subst (Marks ns (i + 1)) (sym m) marks, sorts);
    }
