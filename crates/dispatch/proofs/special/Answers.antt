-- `dispatch::special` meets its contract.
-- Assumes nothing.
use Rattle.steps.proofs.Going.{as_act}
use Rattle.dispatch.proofs.Halting.{special_end, special_taken, special_hidden, special_skipped}
use Rattle.dispatch.proofs.Taking.{reads_at, file_small, line_low}
use Rattle.steps.specs.Standing.{bufs, here_of}
use Rattle.dispatch.proofs.special.Goals as goal

pub end_file-requires : goal.end_file-requires
end_file-requires c = (c.requires.1.open_file, c.requires.0.going.ok.few_files, c.requires.0.going.ok.frames_lent, file_small c.requires.0 c.requires.1, line_low c.requires.0 c.requires.1, c.requires.0.going.ok.copyable.in_text, c.requires.0.going.ok.copyable.in_map)

pub returns-then-t-eq-END : goal.returns-then-t-eq-END
returns-then-t-eq-END c = λ cd a x ms f o h. as_act c.end_file.result _ _ _ _ _ ms _ (here_of x c.args.limit (bufs c.args.text.now c.args.map.now c.args.bytes.now c.args.records.now c.args.frames.now cd) ms c.args.z) (special_end _ ms f a o c.requires.2 c.if-t-eq-END.true) (c.end_file.ensures _ _ _ _ _ _ cd x ms f o h)

pub take-requires : goal.take-requires
take-requires c = (c.requires.0, c.requires.1, c.requires.3)

pub shape_of-bytes-then-k : goal.shape_of-bytes-then-k
shape_of-bytes-then-k c = c.take.auto.bytes

pub shape_of-records-then-k : goal.shape_of-records-then-k
shape_of-records-then-k c = c.take.auto.records

pub shape_of-frames-then-k : goal.shape_of-frames-then-k
shape_of-frames-then-k c = c.take.auto.frames

pub shape_of-name-then-k : goal.shape_of-name-then-k
shape_of-name-then-k c = c.take.auto.name

pub shape_of-form-then-k : goal.shape_of-form-then-k
shape_of-form-then-k c = c.take.auto.form

pub shape_of-list-then-k : goal.shape_of-list-then-k
shape_of-list-then-k c = c.take.auto.list

pub shape_of-out-then-k : goal.shape_of-out-then-k
shape_of-out-then-k c = c.take.auto.out

pub shape_of-ranges-then-k : goal.shape_of-ranges-then-k
shape_of-ranges-then-k c = c.take.auto.ranges

pub shape_of-stack-then-k : goal.shape_of-stack-then-k
shape_of-stack-then-k c = c.take.auto.stack

pub shape_of-work-then-k : goal.shape_of-work-then-k
shape_of-work-then-k c = c.take.auto.work

pub shape_of-quoted-then-k : goal.shape_of-quoted-then-k
shape_of-quoted-then-k c = c.take.auto.quoted

pub shape_of-decimal-then-k : goal.shape_of-decimal-then-k
shape_of-decimal-then-k c = c.take.auto.decimal

pub shape_of-text-then-k : goal.shape_of-text-then-k
shape_of-text-then-k c = c.take.auto.text

pub shape_of-map-then-k : goal.shape_of-map-then-k
shape_of-map-then-k c = c.take.auto.map

pub returns-then-k : goal.returns-then-k
returns-then-k c = λ cd a x ms f o h. as_act c.take.result _ _ _ _ _ ms _ (here_of x c.args.limit (bufs c.args.text.now c.args.map.now c.args.bytes.now c.args.records.now c.args.frames.now cd) ms c.args.z) (special_taken _ ms f a o c.requires.2 c.if-t-eq-END.false c.if-k.true) (c.take.ensures cd a x ms f o h)

pub hide-requires : goal.hide-requires
hide-requires c = (c.requires.3.name_lent, c.requires.3.stack_lent, reads_at c.requires.0 c.requires.1)

pub returns-then-d-eq-DEFINE : goal.returns-then-d-eq-DEFINE
returns-then-d-eq-DEFINE c = λ cd a x ms f o h. as_act c.hide.result _ _ _ _ _ ms _ (here_of x c.args.limit (bufs c.args.text.now c.args.map.now c.args.bytes.now c.args.records.now c.args.frames.now cd) ms c.args.z) (special_hidden _ ms f a o c.requires.2 c.if-t-eq-END.false c.if-k.false c.if-d-eq-DEFINE.true) (c.hide.ensures _ _ _ _ _ _ _ _ _ cd a x ms f o h)

pub behind-requires : goal.behind-requires
behind-requires c = reads_at c.requires.0 c.requires.1

pub returns : goal.returns
returns c = λ cd a x ms f o h. special_skipped _ ms f a o c.requires.2 c.if-t-eq-END.false c.if-k.false c.if-d-eq-DEFINE.false h _ c.behind.ensures
