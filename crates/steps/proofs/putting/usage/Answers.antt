-- `steps::putting::usage` meets its contract.
-- Assumes nothing.
use mathlib.Core.Path.{ap, ◌∙◌}
use native.Mathlib.Omega.{arith}
use Rattle.places.specs.Places.{quoted}
use Rattle.steps.proofs.PlaceWords.{name_fits, front_is}
use Rattle.steps.proofs.Usages.{expanded_reads, usage_on, usage_low, usage_high}
use Rattle.steps.proofs.putting.usage.Goals as goal

pub quote-q-requires : goal.quote-q-requires
quote-q-requires c = name_fits _ _ _ _ c.args.quoted.now c.name_at.ensures c.requires.place.entries c.requires.place.file_in c.requires.place.quoted_lent

pub place_of-requires : goal.place_of-requires
place_of-requires c = (omega (arith, c.requires.place.file_in, c.requires.place.few_entries), omega (arith, c.requires.place.reads.line_small, c.requires.place.reads.inside, c.requires.place.reads.small))

pub expand-r-requires : goal.expand-r-requires
expand-r-requires c = (c.requires.inside, c.requires.place.spot, c.requires.lends, c.requires.work_lent)

pub behind-requires : goal.behind-requires
behind-requires c = expanded_reads _ c.args.z _ c.expand-r.result c.requires.place.reads c.expanded-x.ensures

pub shape_of-list-then-r-eq0 : goal.shape_of-list-then-r-eq0
shape_of-list-then-r-eq0 c = c.expand-r.auto.list

pub shape_of-out-then-r-eq0 : goal.shape_of-out-then-r-eq0
shape_of-out-then-r-eq0 c = c.expand-r.auto.out

pub shape_of-ranges-then-r-eq0 : goal.shape_of-ranges-then-r-eq0
shape_of-ranges-then-r-eq0 c = c.expand-r.auto.ranges

pub shape_of-stack-then-r-eq0 : goal.shape_of-stack-then-r-eq0
shape_of-stack-then-r-eq0 c = c.expand-r.auto.stack

pub shape_of-work-then-r-eq0 : goal.shape_of-work-then-r-eq0
shape_of-work-then-r-eq0 c = c.expand-r.auto.work

pub shape_of-quoted-then-r-eq0 : goal.shape_of-quoted-then-r-eq0
shape_of-quoted-then-r-eq0 c = c.quote-q.auto.out

pub shape_of-decimal-then-r-eq0 : goal.shape_of-decimal-then-r-eq0
shape_of-decimal-then-r-eq0 c = c.write_digits-d.auto.out

pub shape_of-text-then-r-eq0 : goal.shape_of-text-then-r-eq0
shape_of-text-then-r-eq0 c = c.expand-r.auto.text

pub shape_of-map-then-r-eq0 : goal.shape_of-map-then-r-eq0
shape_of-map-then-r-eq0 c = c.expand-r.auto.map

pub returns-then-r-eq0 : goal.returns-then-r-eq0
returns-then-r-eq0 c set fr cd here x ms fixed ok held = usage_on _ ms fixed here ok held _ _ (front_is _ c.quote-q.result _ _ c.quote-q.ensures.0 c.part_of-2.ensures ∙ ap quoted c.name_at.ensures) (front_is _ c.write_digits-d.result _ _ c.write_digits-d.ensures.0 c.part_of-3.ensures) c.place_of.ensures c.part_of.ensures c.expand-r.ensures c.expanded-x.ensures c.if-r-eq0.true c.behind.ensures

pub shape_of-list-then-r-lt7 : goal.shape_of-list-then-r-lt7
shape_of-list-then-r-lt7 c = c.expand-r.auto.list

pub shape_of-out-then-r-lt7 : goal.shape_of-out-then-r-lt7
shape_of-out-then-r-lt7 c = c.expand-r.auto.out

pub shape_of-ranges-then-r-lt7 : goal.shape_of-ranges-then-r-lt7
shape_of-ranges-then-r-lt7 c = c.expand-r.auto.ranges

pub shape_of-stack-then-r-lt7 : goal.shape_of-stack-then-r-lt7
shape_of-stack-then-r-lt7 c = c.expand-r.auto.stack

pub shape_of-work-then-r-lt7 : goal.shape_of-work-then-r-lt7
shape_of-work-then-r-lt7 c = c.expand-r.auto.work

pub shape_of-quoted-then-r-lt7 : goal.shape_of-quoted-then-r-lt7
shape_of-quoted-then-r-lt7 c = c.quote-q.auto.out

pub shape_of-decimal-then-r-lt7 : goal.shape_of-decimal-then-r-lt7
shape_of-decimal-then-r-lt7 c = c.write_digits-d.auto.out

pub shape_of-text-then-r-lt7 : goal.shape_of-text-then-r-lt7
shape_of-text-then-r-lt7 c = c.expand-r.auto.text

pub shape_of-map-then-r-lt7 : goal.shape_of-map-then-r-lt7
shape_of-map-then-r-lt7 c = c.expand-r.auto.map

pub returns-then-r-lt7 : goal.returns-then-r-lt7
returns-then-r-lt7 c set fr cd here x ms fixed ok held = usage_low _ ms fixed here ok held _ _ (front_is _ c.quote-q.result _ _ c.quote-q.ensures.0 c.part_of-2.ensures ∙ ap quoted c.name_at.ensures) (front_is _ c.write_digits-d.result _ _ c.write_digits-d.ensures.0 c.part_of-3.ensures) c.place_of.ensures c.part_of.ensures c.expand-r.ensures c.expanded-x.ensures c.if-r-eq0.false c.if-r-lt7.true c.refuse.ensures

pub shape_of-list : goal.shape_of-list
shape_of-list c = c.expand-r.auto.list

pub shape_of-out : goal.shape_of-out
shape_of-out c = c.expand-r.auto.out

pub shape_of-ranges : goal.shape_of-ranges
shape_of-ranges c = c.expand-r.auto.ranges

pub shape_of-stack : goal.shape_of-stack
shape_of-stack c = c.expand-r.auto.stack

pub shape_of-work : goal.shape_of-work
shape_of-work c = c.expand-r.auto.work

pub shape_of-quoted : goal.shape_of-quoted
shape_of-quoted c = c.quote-q.auto.out

pub shape_of-decimal : goal.shape_of-decimal
shape_of-decimal c = c.write_digits-d.auto.out

pub shape_of-text : goal.shape_of-text
shape_of-text c = c.expand-r.auto.text

pub shape_of-map : goal.shape_of-map
shape_of-map c = c.expand-r.auto.map

pub returns : goal.returns
returns c set fr cd here x ms fixed ok held = usage_high _ ms fixed here ok held _ _ (front_is _ c.quote-q.result _ _ c.quote-q.ensures.0 c.part_of-2.ensures ∙ ap quoted c.name_at.ensures) (front_is _ c.write_digits-d.result _ _ c.write_digits-d.ensures.0 c.part_of-3.ensures) c.place_of.ensures c.part_of.ensures c.expand-r.ensures c.expanded-x.ensures c.if-r-eq0.false c.if-r-lt7.false c.refuse-2.ensures
