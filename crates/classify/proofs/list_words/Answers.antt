use mathlib.Core.Path.{refl, ◌∙◌}
use native.Mathlib.Omega.{arith}
use Rattle.directive.proofs.Wording.{token_goes, token_lies}
use Rattle.classify.proofs.Passing.{grave_past}
use Rattle.classify.proofs.Writing.{written_none, written_length, listed_out, listed_barred, listed_full, written_word, written_other, written_on, listed_stop}
use Rattle.classify.proofs.list_words.Goals as goal

pub loop-i-init : goal.loop-i-init
loop-i-init c = (written_none _ _ _, refl, refl)

pub shape_of-words-then-t-ne0 : goal.shape_of-words-then-t-ne0
shape_of-words-then-t-ne0 c = written_length _ _ _ _ _ _ _ c.loop-i.invariant.0

pub shape_of-name-then-t-ne0 : goal.shape_of-name-then-t-ne0
shape_of-name-then-t-ne0 c = c.loop-i.invariant.1

pub shape_of-stack-then-t-ne0 : goal.shape_of-stack-then-t-ne0
shape_of-stack-then-t-ne0 c = c.loop-i.invariant.2

pub returns-then-t-ne0 : goal.returns-then-t-ne0
returns-then-t-ne0 c = listed_barred _ _ _ _ _ _ _ c.loop-i.invariant.0 _ _ c.loop-i-test.true c.in_file.ensures c.token_at-t.ensures _ c.if-t-ne0.true c.make_ended.ensures

pub shape_of-words-then-words-n : goal.shape_of-words-then-words-n
shape_of-words-then-words-n c = written_length _ _ _ _ _ _ _ c.loop-i.invariant.0

pub shape_of-name-then-words-n : goal.shape_of-name-then-words-n
shape_of-name-then-words-n c = c.loop-i.invariant.1

pub shape_of-stack-then-words-n : goal.shape_of-stack-then-words-n
shape_of-stack-then-words-n c = c.loop-i.invariant.2

pub returns-then-words-n : goal.returns-then-words-n
returns-then-words-n c = listed_full _ _ _ _ _ _ _ c.loop-i.invariant.0 _ _ c.loop-i-test.true c.in_file.ensures c.token_at-t.ensures c.if-t-ne0.false c.if-t-eq-NAME.true _ c.if-words-n.true c.make_ended-then-words-n.ensures

pub word_of-requires : goal.word_of-requires
word_of-requires c = let l = token_lies _ _ _ _ c.loop-i-test.true c.in_file.ensures c.token_at-t.ensures in (omega arith, omega arith, c.requires.2)

pub offset_bounds-words-n : goal.offset_bounds-words-n
offset_bounds-words-n c = omega (arith, written_length _ _ _ _ _ _ _ c.loop-i.invariant.0, c.well_formed.1.1.0.1)

pub bounds-words-n : goal.bounds-words-n
bounds-words-n c = c.if-words-n.false

pub overflow_add-n : goal.overflow_add-n
overflow_add-n c = omega (arith, written_length _ _ _ _ _ _ _ c.loop-i.invariant.0, c.well_formed.1.1.0.0)

pub loop-i-smaller-then-t-eq-NAME : goal.loop-i-smaller-then-t-eq-NAME
loop-i-smaller-then-t-eq-NAME c = omega (arith, token_goes _ _ _ _ c.loop-i-test.true c.in_file.ensures c.token_at-t.ensures)

pub loop-i-preserved-then-t-eq-NAME : goal.loop-i-preserved-then-t-eq-NAME
loop-i-preserved-then-t-eq-NAME c = (written_word _ _ _ _ _ _ _ c.loop-i.invariant.0 _ _ c.loop-i-test.true c.in_file.ensures c.token_at-t.ensures c.if-t-ne0.false c.if-t-eq-NAME.true _ c.if-words-n.false c.word_of.ensures, c.loop-i.invariant.1, c.loop-i.invariant.2)

pub loop-i-smaller-then-t-ne-GRAVE : goal.loop-i-smaller-then-t-ne-GRAVE
loop-i-smaller-then-t-ne-GRAVE c = omega (arith, token_goes _ _ _ _ c.loop-i-test.true c.in_file.ensures c.token_at-t.ensures)

pub loop-i-preserved-then-t-ne-GRAVE : goal.loop-i-preserved-then-t-ne-GRAVE
loop-i-preserved-then-t-ne-GRAVE c = (written_other _ _ _ _ _ _ _ c.loop-i.invariant.0 _ _ c.loop-i-test.true c.in_file.ensures c.token_at-t.ensures c.if-t-ne0.false c.if-t-eq-NAME.false c.if-t-ne-GRAVE.true, c.loop-i.invariant.1, c.loop-i.invariant.2)

pub past_grave-p-requires : goal.past_grave-p-requires
past_grave-p-requires c = (c.requires.0, omega (arith, c.requires.1, c.loop-i.invariant.1))

pub loop-i-smaller : goal.loop-i-smaller
loop-i-smaller c = omega (arith, token_goes _ _ _ _ c.loop-i-test.true c.in_file.ensures c.token_at-t.ensures, grave_past _ _ _ _ _ _ _ c.past_grave-p.ensures c.in-Ok.is)

pub loop-i-preserved : goal.loop-i-preserved
loop-i-preserved c = (written_on _ _ _ _ _ _ _ c.loop-i.invariant.0 _ _ c.loop-i-test.true c.in_file.ensures c.token_at-t.ensures c.if-t-ne0.false c.if-t-eq-NAME.false c.if-t-ne-GRAVE.false _ c.past_grave-p.ensures _ _ c.in-Ok.is, c.past_grave-p.auto.name ∙ c.loop-i.invariant.1, c.past_grave-p.auto.stack ∙ c.loop-i.invariant.2)

pub shape_of-words-in-Err : goal.shape_of-words-in-Err
shape_of-words-in-Err c = written_length _ _ _ _ _ _ _ c.loop-i.invariant.0

pub shape_of-name-in-Err : goal.shape_of-name-in-Err
shape_of-name-in-Err c = c.past_grave-p.auto.name ∙ c.loop-i.invariant.1

pub shape_of-stack-in-Err : goal.shape_of-stack-in-Err
shape_of-stack-in-Err c = c.past_grave-p.auto.stack ∙ c.loop-i.invariant.2

pub returns-in-Err : goal.returns-in-Err
returns-in-Err c = listed_stop _ _ _ _ _ _ _ c.loop-i.invariant.0 _ _ c.loop-i-test.true c.in_file.ensures c.token_at-t.ensures c.if-t-ne0.false c.if-t-eq-NAME.false c.if-t-ne-GRAVE.false _ c.past_grave-p.ensures _ _ _ c.in-Err.is c.make_ended-in-Err.ensures

pub shape_of-words : goal.shape_of-words
shape_of-words c = written_length _ _ _ _ _ _ _ c.loop-i.invariant.0

pub shape_of-name : goal.shape_of-name
shape_of-name c = c.loop-i.invariant.1

pub shape_of-stack : goal.shape_of-stack
shape_of-stack c = c.loop-i.invariant.2

pub returns : goal.returns
returns c = listed_out _ _ _ _ _ _ _ c.loop-i.invariant.0 _ c.loop-i-test.false c.make_ended-2.ensures
