-- `program::listing::closing_word` meets its contract, word by word. Assumes nothing.
use Rattle.std.proofs.Common.{rules, tests}
use Rattle.program.specs.Listing.{closing_word}
use Rattle.program.proofs.listing.closing_word.Goals as goal

pub returns-in-61441-clause-word : goal.returns-in-61441-clause-word
unfolding closing_word
returns-in-61441-clause-word c = search (rules, tests)

pub returns-in-61442-clause-word : goal.returns-in-61442-clause-word
unfolding closing_word
returns-in-61442-clause-word c = search (rules, tests)

pub returns-in_default-clause-word : goal.returns-in_default-clause-word
unfolding closing_word
returns-in_default-clause-word c = search (rules, tests)
