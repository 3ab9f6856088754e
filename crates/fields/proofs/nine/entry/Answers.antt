-- Two codes have an entry, and other numbers have 0.
use Rattle.std.proofs.Common.{rules}
use Rattle.fields.specs.Nine.{entry_of}
use Rattle.fields.proofs.nine.entry.Goals as goal

pub returns-then-b-lt9 : goal.returns-then-b-lt9
unfolding entry_of
returns-then-b-lt9 c = search rules

pub returns-else-a-lt9 : goal.returns-else-a-lt9
unfolding entry_of
returns-else-a-lt9 c = search rules
