use mathlib.Core.Path.{◌∙◌}
use Rattle.reading.proofs.Onward.{outside_word, word_low, word_high, onward_none, answers_full, onward_upto, answers_barred, answers_upto, answers_refused, onward_less, onward_word}
use Rattle.reading.proofs.read_on.Goals as goal

pub loop-e-init : goal.loop-e-init
loop-e-init c = onward_none c.requires.1 c.requires.2

pub pass_on-r-requires : goal.pass_on-r-requires
pass_on-r-requires c = rw c.place_of-base.ensures c.loop-e.invariant.copyable

pub shape_of-conds-in-Full : goal.shape_of-conds-in-Full
shape_of-conds-in-Full c = c.loop-e.invariant.same_conds

pub shape_of-text-in-Full : goal.shape_of-text-in-Full
shape_of-text-in-Full c = c.pass_on-r.auto.text ∙ c.loop-e.invariant.same_text

pub shape_of-map-in-Full : goal.shape_of-map-in-Full
shape_of-map-in-Full c = c.pass_on-r.auto.map ∙ c.loop-e.invariant.same_map

pub returns-in-Full : goal.returns-in-Full
returns-in-Full c = answers_full c.loop-e.invariant c.place_of-base.ensures c.pass_on-r.ensures c.in-Full.is

pub shape_of-conds-then-t-ne0 : goal.shape_of-conds-then-t-ne0
shape_of-conds-then-t-ne0 c = c.loop-e.invariant.same_conds

pub shape_of-text-then-t-ne0 : goal.shape_of-text-then-t-ne0
shape_of-text-then-t-ne0 c = c.pass_on-r.auto.text ∙ c.loop-e.invariant.same_text

pub shape_of-map-then-t-ne0 : goal.shape_of-map-then-t-ne0
shape_of-map-then-t-ne0 c = c.pass_on-r.auto.map ∙ c.loop-e.invariant.same_map

pub returns-then-t-ne0 : goal.returns-then-t-ne0
returns-then-t-ne0 c = answers_barred (onward_upto c.loop-e.invariant c.place_of-base.ensures c.pass_on-r.ensures c.in-Upto.is) c.if-t-ne0.true

pub shape_of-conds-then-d : goal.shape_of-conds-then-d
shape_of-conds-then-d c = c.loop-e.invariant.same_conds

pub shape_of-text-then-d : goal.shape_of-text-then-d
shape_of-text-then-d c = c.pass_on-r.auto.text ∙ c.loop-e.invariant.same_text

pub shape_of-map-then-d : goal.shape_of-map-then-d
shape_of-map-then-d c = c.pass_on-r.auto.map ∙ c.loop-e.invariant.same_map

pub returns-then-d : goal.returns-then-d
returns-then-d c = answers_upto (onward_upto c.loop-e.invariant c.place_of-base.ensures c.pass_on-r.ensures c.in-Upto.is) c.if-t-ne0.false c.part_of.ensures c.directive_of-d.ensures (outside_word c.directive_of-d.result c.if-d.true)

pub choose-x-requires : goal.choose-x-requires
choose-x-requires c = (c.loop-e.invariant.blocks_are, c.requires.3)

pub loop-e-smaller : goal.loop-e-smaller
loop-e-smaller c = onward_less (onward_upto c.loop-e.invariant c.place_of-base.ensures c.pass_on-r.ensures c.in-Upto.is) c.if-t-ne0.false c.part_of.ensures c.directive_of-d.ensures (word_low _ c.if-d.false) (word_high _ c.if-d.false) c.requires.3 c.choose-x.result c.choose-x.new.conds c.choose-x.ensures c.in-Ok.is c.cursor_behind-c.ensures

pub loop-e-preserved : goal.loop-e-preserved
loop-e-preserved c = onward_word (onward_upto c.loop-e.invariant c.place_of-base.ensures c.pass_on-r.ensures c.in-Upto.is) c.if-t-ne0.false c.part_of.ensures c.directive_of-d.ensures (word_low _ c.if-d.false) (word_high _ c.if-d.false) c.requires.3 c.choose-x.result c.choose-x.new.conds c.choose-x.ensures c.in-Ok.is c.cursor_behind-c.ensures c.choose-x.auto.conds

pub shape_of-conds-in-Err : goal.shape_of-conds-in-Err
shape_of-conds-in-Err c = c.choose-x.auto.conds ∙ c.loop-e.invariant.same_conds

pub shape_of-text-in-Err : goal.shape_of-text-in-Err
shape_of-text-in-Err c = c.pass_on-r.auto.text ∙ c.loop-e.invariant.same_text

pub shape_of-map-in-Err : goal.shape_of-map-in-Err
shape_of-map-in-Err c = c.pass_on-r.auto.map ∙ c.loop-e.invariant.same_map

pub returns-in-Err : goal.returns-in-Err
returns-in-Err c = answers_refused (onward_upto c.loop-e.invariant c.place_of-base.ensures c.pass_on-r.ensures c.in-Upto.is) c.if-t-ne0.false c.part_of.ensures c.directive_of-d.ensures (word_low _ c.if-d.false) (word_high _ c.if-d.false) c.requires.3 c.choose-x.result c.choose-x.new.conds c.choose-x.ensures c.in-Err.is
