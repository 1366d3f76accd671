use Rattle.std.proofs.Common.{take}
use Rattle.std.specs.Fmt.{IsPlainFormatter, HasWritten}
use Rattle.texts.specs.Words.{components_words}
use Rattle.texts.proofs.words.WordsRefSliceComponentDisplay.fmt.Given as goal

-- the components so far are written
abbrev pub invariant-loop-component : goal.invariant-loop-component
invariant-loop-component g l = IsPlainFormatter l.initial.f → HasWritten g.W.Write.write_str_gives l.initial.f (components_words (take l.component-index l.component-items)) l.f
