-- `text::Text::push_word` meets its contract. The invariant: the word's first bytes stand after what was there. Assumes nothing.
use Rattle.std.proofs.Common.{◌≡◌, ◌++◌, take}
use Rattle.text.proofs.Text.push_word.Given as goal

abbrev pub invariant-loop-byte : goal.invariant-loop-byte
invariant-loop-byte g l = l.self ≡ l.initial.self ++ take l.byte-index l.word
