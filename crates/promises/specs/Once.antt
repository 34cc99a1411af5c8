-- One outcome for every input. 01, "How tight the contracts are": "For each public function and every input, refused ones too, the
-- contract leaves one possible outcome: the result and each lent byte. That uniqueness is itself a proved fact."
-- An outcome is the answer with all that was lent to be written, as it is after the call. Here: the general lemma, the search, the marks
-- of `matching`, and the entry points of `line` and `program`. The others have theirs beside their promises: `judge_unique` (Demands), `named_unique` (NamedDemands), `read_once` and `scan_names_once`
-- (Reader), `write_once` (Writer), `rewrite_once` (Rewritten), `next_unique` and `named_next_unique` (Following).
-- Theorems only. Assumes nothing.
use Rattle.std.specs.Prelude.{ℕ, ◌+◌, Bool, false, List, ◌++◌, ◌≡◌, refl, length, take, drop, Option, Some, None}
use Rattle.std.proofs.Common.{sym, ap, ◌∙◌, arith, ext_get_or}
use Rattle.search.specs.declared.Trip.{Trip}
use Rattle.search.specs.Visits.{out_of}
use Rattle.flow.specs.Cues.{cued, cue_records}
use Rattle.flow.specs.Drawn.{flow_by}
use Rattle.search.specs.Searches.{Searched, asks_after, Asked}
use Rattle.matching.specs.Asks.{AlsoMarked}
use Rattle.judge.specs.declared.Answer.{Answer}
use Rattle.line.specs.declared.Line.{Line}
use Rattle.line.specs.Line.{line_of, Put, LineWritten}
use Rattle.program.specs.Program.{line_for}
use Rattle.program.specs.Answering.{answer_of_file, printed, FileAnswered, AnswerTold, FilePrinted}
use Rattle.program.specs.NextFile.{file_text, NextPrinted}

-- a contract on outcomes leaves one
abbrev pub LeavesOne : {A : Type 0} → (A → Type 0) → Type 0
LeavesOne {A} C = (r r' : A) → C r → C r' → r ≡ r'

-- so does every contract that is an equation: it says of an outcome that it is a certain one
pub equation_once : {A : Type 0} (C : A → Type 0) (a : A) → ((r : A) → C r → r ≡ a) → LeavesOne C
equation_once C a is r r' c c' = is r c ∙ sym (is r' c')

---- What only answers ----

pub judge_file_once : (file : List ℕ) → LeavesOne (FileAnswered file)
judge_file_once file = equation_once (FileAnswered file) (answer_of_file file) (λ r e. e)

pub line_for_once : (a : Answer) → LeavesOne (AnswerTold a)
line_for_once a = equation_once (AnswerTold a) (line_for a) (λ r e. e)

---- What searches ----

-- what a search brings back is told in full
out_once : (a b : Option Trip) → out_of a ≡ out_of b → a ≡ b
unfolding out_of
out_once None None e = refl
out_once None (Some trip) e = let z : ◌≡◌ {A = ℕ} 0 1 = cc in absurd (omega arith)
out_once (Some trip) None e = let z : ◌≡◌ {A = ℕ} 0 1 = cc in absurd (omega arith)
out_once (Some trip) (Some trip') e =
    let f : trip.found ≡ trip'.found = cc in
    let d : trip.far ≡ trip'.far = cc in
    let l : trip.left ≡ trip'.left = cc in
    λ i. Some (record { found = f i; far = d i; left = l i })

pub search_once : {ns xs : List ℕ} {allowance : ℕ} {work : List ℕ} {a b : Option Trip} {after after' : List ℕ}
    → Searched ns xs allowance work a after → Searched ns xs allowance work b after' → (a ≡ b) × (after ≡ after')
search_once {a = a} {b} p q = (out_once a b (p.out ∙ sym q.out), p.leaves ∙ sym q.leaves)

pub ask_once : {ns xs : List ℕ} {allowance : ℕ} {work qs : List ℕ} {a b : Option Trip} {after after' qs' qs'' : List ℕ}
    → Asked ns xs allowance work qs a after qs' → Asked ns xs allowance work qs b after' qs'' → (a ≡ b) × (after ≡ after') × (qs' ≡ qs'')
ask_once {ns} {xs} {qs = qs} p q =
    let o = search_once p.search q.search in
    (o.0, o.1, p.asks ∙ ap (λ (x : Option Trip). asks_after (flow_by cued ns) (cue_records xs) (out_of x) qs) o.0 ∙ sym q.asks)

---- What writes ----

-- the offset behind the text, and every byte of the room
abbrev pub Puts : (text out : List ℕ) → ℕ → ℕ × List ℕ → Type 0
Puts text out at o = Put text out at o.1 o.0

pub put_once : (text out : List ℕ) (at : ℕ) → LeavesOne (Puts text out at)
put_once text out at =
    equation_once (Puts text out at) (at + length text, take at out ++ (text ++ drop (at + length text) out)) is
  where
    is : (o : ℕ × List ℕ) → Puts text out at o → o ≡ (at + length text, take at out ++ (text ++ drop (at + length text) out))
    is o p =
        let w : o.1 ≡ take at out ++ (text ++ drop (at + length text) out) =
        p.written ∙ ap (λ (r : ℕ). take at out ++ (text ++ drop r out)) p.end in
        λ i. (p.end i, w i)

pub write_line_once : (line : Line) (out : List ℕ) → LeavesOne (λ (o : ℕ × List ℕ). LineWritten line out o.1 o.0)
write_line_once line out = put_once (line_of line) out 0

pub write_file_line_once : (file out : List ℕ) → LeavesOne (λ (o : ℕ × List ℕ). FilePrinted file out o.1 o.0)
write_file_line_once file out = put_once (printed file) out 0

pub next_file_once : (file : List ℕ) (first : ℕ) (out : List ℕ) → LeavesOne (λ (o : ℕ × List ℕ). NextPrinted file first out o.1 o.0)
next_file_once file first out = put_once (file_text file first) out 0

-- the marks of all events, those that were marked and those that were not
pub marks_once : (test : ℕ → Bool) (before : List Bool) → length before ≡ 257 → LeavesOne (AlsoMarked test before)
marks_once test before l r r' c c' =
    ext_get_or false r r' (c.size ∙ sym c'.size)
    (λ a h. let e = c.size in c.each a (omega arith) ∙ sym (c'.each a (omega arith)))
