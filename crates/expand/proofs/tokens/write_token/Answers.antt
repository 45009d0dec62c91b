-- `expand::tokens::write_token` meets its contract. One law for each kind of token.
-- Assumes nothing.
use Rattle.expand.proofs.Spelling.{writes_quote, writes_escaped_quote, writes_joiner, writes_file, writes_line, writes_spelled}
use Rattle.expand.proofs.tokens.write_token.Goals as goal

pub returns-then-p-eq-QUOTE : goal.returns-then-p-eq-QUOTE
returns-then-p-eq-QUOTE c = let h = c.if-p-eq-QUOTE.true in rw writes_quote c.write_whole.ensures

pub returns-then-p-eq-ESCAPED_QUOTE : goal.returns-then-p-eq-ESCAPED_QUOTE
returns-then-p-eq-ESCAPED_QUOTE c = let h = c.if-p-eq-ESCAPED_QUOTE.true in rw writes_escaped_quote c.write_whole-then-p-eq-ESCAPED_QUOTE.ensures

pub returns-then-p-eq-JOINER : goal.returns-then-p-eq-JOINER
returns-then-p-eq-JOINER c = let h = c.if-p-eq-JOINER.true in rw writes_joiner c.write_whole-then-p-eq-JOINER.ensures

pub returns-then-directive_of-eq1 : goal.returns-then-directive_of-eq1
returns-then-directive_of-eq1 c = rw (writes_file _ _ _ _ c.if-p-eq-GRAVE.true _ _ c.directive_of.ensures c.name_of.ensures c.if-directive_of-eq1.true) c.write_whole-then-directive_of-eq1.ensures

pub returns-then-p-eq-GRAVE : goal.returns-then-p-eq-GRAVE
returns-then-p-eq-GRAVE c = rw (writes_line _ _ _ _ c.if-p-eq-GRAVE.true _ _ c.directive_of.ensures c.name_of.ensures c.if-directive_of-eq1.false) c.write_whole-then-p-eq-GRAVE.ensures

pub returns : goal.returns
returns c = let q = c.if-p-eq-QUOTE.false in let e = c.if-p-eq-ESCAPED_QUOTE.false in let j = c.if-p-eq-JOINER.false in let g = c.if-p-eq-GRAVE.false in rw writes_spelled c.write_spelled.ensures
