-- `line::Text::decimal` meets its contract: the fewest digits. Assumes nothing.
use Rattle.std.proofs.Common.{◌≡◌, ℕ, length, arith, ap, ap₂, ◌∙◌}
use Rattle.io.specs.Digits.{last_digits}
use Rattle.line.specs.Line.{size, decimal}
use Rattle.line.specs.LineLaws.{digits_length, fewest_size, fewest_most}
use Rattle.line.proofs.Text.decimal.Goals as goal

pub put-requires : goal.put-requires
put-requires c =
    let d = c.decimal-k in
    omega (arith, ap length d.ensures.digits, digits_length 10 d.result c.from.result, fewest_most _ _ (omega arith) d.ensures.len)

pub returns-clause-put : goal.returns-clause-put
unfolding decimal
returns-clause-put c =
    let d = c.decimal-k in
    let few : d.result ≡ size c.args.n = fewest_size _ _ d.ensures.len ∙ ap size c.from.ensures in
    let text = d.ensures.digits ∙ ap₂ (λ (k n : ℕ). last_digits 10 k n) few c.from.ensures in
    rw text at c.put.ensures.put

pub returns-clause-upper_bound : goal.returns-clause-upper_bound
returns-clause-upper_bound c =
    let d = c.decimal-k in
    omega (arith, c.put.ensures.put.end, ap length d.ensures.digits, digits_length 10 d.result c.from.result, fewest_most _ _ (omega arith) d.ensures.len)
