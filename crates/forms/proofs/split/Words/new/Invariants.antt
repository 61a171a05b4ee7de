use Rattle.std.proofs.Common.{◌≡◌, length, take}
use Rattle.forms.specs.Words.{most_words}
use Rattle.forms.proofs.split.Words.new.Given as goal

abbrev pub invariant-loop-word : goal.invariant-loop-word
invariant-loop-word l = record {
  size : length l.words.parts ≡ most_words;
  many : l.words.len ≡ length l.yielded;
  each : take l.words.len l.words.parts ≡ l.yielded;
}
