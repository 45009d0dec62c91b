-- `dispatch::take` meets its contract.
-- Assumes nothing.
use Rattle.steps.proofs.Going.{as_act, body_here, token_at_here}
use Rattle.dispatch.proofs.Taking.{reads_at, file_small, place_lent, usage_lent, define_ready, taken_usage, taken_define, taken_undef, taken_all, taken_include, taken_keep, taken_place}
use Rattle.steps.specs.Standing.{bufs, here_of}
use Rattle.dispatch.proofs.take.Goals as goal

pub usage-requires : goal.usage-requires
usage-requires c = usage_lent c.requires.0 c.requires.1 c.requires.2

pub returns-then-d-eq0 : goal.returns-then-d-eq0
returns-then-d-eq0 c = λ cd a x ms f o h. as_act c.usage.result _ _ _ _ _ ms _ (here_of x c.args.limit (bufs c.args.text.now c.args.map.now c.args.bytes.now c.args.records.now c.args.frames.now cd) ms c.args.z) (taken_usage _ _ c.if-d-eq0.true) (c.usage.ensures _ _ cd a x ms f o h)

pub define-requires : goal.define-requires
define-requires c = (define_ready c.requires.0 c.requires.1 c.requires.2, reads_at c.requires.0 c.requires.1)

pub returns-then-d-eq-DEFINE : goal.returns-then-d-eq-DEFINE
returns-then-d-eq-DEFINE c = λ cd a x ms f o h. as_act c.define.result _ _ _ _ _ ms _ (here_of x c.args.limit (bufs c.args.text.now c.args.map.now c.args.bytes.now c.args.records.now c.args.frames.now cd) ms c.args.z) (taken_define _ _ c.if-d-eq0.false (body_here f a) (token_at_here f a) c.if-d-eq-DEFINE.true) (c.define.ensures _ _ _ _ _ _ _ cd a x ms f o h)

pub undef-requires : goal.undef-requires
undef-requires c = (c.requires.0.going.bytes_small, c.requires.0.going.stored, reads_at c.requires.0 c.requires.1)

pub returns-then-d-eq-UNDEF : goal.returns-then-d-eq-UNDEF
returns-then-d-eq-UNDEF c = λ cd a x ms f o h. as_act c.undef.result _ _ _ _ _ ms _ (here_of x c.args.limit (bufs c.args.text.now c.args.map.now c.args.bytes.now c.args.records.now c.args.frames.now cd) ms c.args.z) (taken_undef _ _ c.if-d-eq0.false c.if-d-eq-DEFINE.false (body_here f a) (token_at_here f a) c.if-d-eq-UNDEF.true) (c.undef.ensures _ _ _ _ _ _ _ cd a x ms f o h)

pub undef_all-requires : goal.undef_all-requires
undef_all-requires c = (c.requires.0.going.stored, reads_at c.requires.0 c.requires.1)

pub returns-then-d-eq-UNDEFINE_ALL : goal.returns-then-d-eq-UNDEFINE_ALL
returns-then-d-eq-UNDEFINE_ALL c = λ cd a x ms f o h. as_act c.undef_all.result _ _ _ _ _ ms _ (here_of x c.args.limit (bufs c.args.text.now c.args.map.now c.args.bytes.now c.args.records.now c.args.frames.now cd) ms c.args.z) (taken_all _ _ c.if-d-eq0.false c.if-d-eq-DEFINE.false c.if-d-eq-UNDEF.false (token_at_here f a) c.if-d-eq-UNDEFINE_ALL.true) (c.undef_all.ensures _ _ _ _ _ _ _ cd a x ms f o h)

pub enter-requires : goal.enter-requires
enter-requires c = (c.requires.1.open_file, c.requires.0.going.ok.few_files, c.requires.0.going.ok.frames_lent, reads_at c.requires.0 c.requires.1)

pub returns-then-d-eq-INCLUDE : goal.returns-then-d-eq-INCLUDE
returns-then-d-eq-INCLUDE c = λ cd a x ms f o h. as_act c.enter.result _ _ _ _ _ ms _ (here_of x c.args.limit (bufs c.args.text.now c.args.map.now c.args.bytes.now c.args.records.now c.args.frames.now cd) ms c.args.z) (taken_include _ _ c.if-d-eq0.false c.if-d-eq-DEFINE.false c.if-d-eq-UNDEF.false c.if-d-eq-UNDEFINE_ALL.false (body_here f a) (token_at_here f a) c.if-d-eq-INCLUDE.true) (c.enter.ensures _ _ _ _ _ _ cd a x ms f o h)

pub keep_on-requires : goal.keep_on-requires
keep_on-requires c = (file_small c.requires.0 c.requires.1, c.requires.0.going.ok.copyable.in_text, c.requires.0.going.ok.copyable.in_map, reads_at c.requires.0 c.requires.1)

pub returns-then-d : goal.returns-then-d
returns-then-d c = λ cd a x ms f o h. as_act c.keep_on.result _ _ _ _ _ ms _ (here_of x c.args.limit (bufs c.args.text.now c.args.map.now c.args.bytes.now c.args.records.now c.args.frames.now cd) ms c.args.z) (taken_keep _ _ c.if-d-eq0.false c.if-d-eq-DEFINE.false c.if-d-eq-UNDEF.false c.if-d-eq-UNDEFINE_ALL.false c.if-d-eq-INCLUDE.false c.if-d.true) (c.keep_on.ensures _ _ _ _ _ _ cd a x ms f o h)

pub write_place_word-requires : goal.write_place_word-requires
write_place_word-requires c = place_lent c.requires.0 c.requires.1 c.requires.2

pub returns : goal.returns
returns c = λ cd a x ms f o h. as_act c.write_place_word.result _ _ _ _ _ ms _ (here_of x c.args.limit (bufs c.args.text.now c.args.map.now c.args.bytes.now c.args.records.now c.args.frames.now cd) ms c.args.z) (taken_place _ _ c.if-d-eq0.false c.if-d-eq-DEFINE.false c.if-d-eq-UNDEF.false c.if-d-eq-UNDEFINE_ALL.false c.if-d-eq-INCLUDE.false c.if-d.false) (c.write_place_word.ensures _ _ _ _ _ cd a x ms f o h)
