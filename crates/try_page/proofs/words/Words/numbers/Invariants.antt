use Rattle.std.proofs.Common.{◌+◌, ◌≤◌}
use Rattle.try_page.specs.Reading.{left_of}
use Rattle.try_page.proofs.words.Words.numbers.Given as goal

-- each number so far took a word at least
abbrev pub invariant-loop-number : goal.invariant-loop-number
invariant-loop-number g l = left_of l.self + l.number-index ≤ left_of l.initial.self
