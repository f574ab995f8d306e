use Rattle.std.proofs.Common.{◌≡◌, length}
use Rattle.std.specs.List.{list_any}
use Rattle.script.specs.Words.{words_left}
use Rattle.script.specs.Later.{is_later_option}
use Rattle.script.proofs.later.has_later_option.Given as goal

abbrev pub invariant-loop-word : goal.invariant-loop-word
invariant-loop-word l = list_any (λ word. is_later_option word.text) (words_left l.words.line.now l.words.from) ≡ list_any (λ word. is_later_option word.text) (words_left l.fn.words.line.now l.fn.words.from)

abbrev pub decreases-loop-word : goal.decreases-loop-word
decreases-loop-word l = length (words_left l.words.line.now l.words.from)
