-- `running::advance` meets its contract.
-- Assumes nothing.
use mathlib.Core.Path.{◌∙◌}
use Rattle.steps.specs.Standing.{bufs}
use Rattle.running.proofs.Advancing.{advance_ended}
use Rattle.running.proofs.Reaching.{Reaches, read_lent, reached_going, reached_here, reached_halts, advance_on, advance_stopped}
use Rattle.running.proofs.advance.Goals as goal

pub end_run-requires : goal.end_run-requires
end_run-requires c = c.requires.0.ok.blocks_are

pub returns-then-z-eq0 : goal.returns-then-z-eq0
returns-then-z-eq0 c = advance_ended c.args.limit c.end_run.result c.requires.0 c.if-z-eq0.true c.end_run.ensures

pub body_at-s-requires : goal.body_at-s-requires
body_at-s-requires c = c.requires.0.ok.file_in

pub read_from-r-requires : goal.read_from-r-requires
read_from-r-requires c = read_lent c.requires.0 c.body_at-s.ensures

pub special-requires : goal.special-requires
special-requires c =
    let read : Reaches c.args.files.now c.args.table.now (bufs c.args.text.now c.args.map.now c.args.bytes.now c.args.records.now c.args.frames.now c.args.conds.now) c.args.z c.body_at-s.result.now c.read_from-r.result
    c.read_from-r.new.text c.read_from-r.new.map c.read_from-r.new.conds
    = record { going = c.requires.0; some_open = c.if-z-eq0.false; body_is = c.body_at-s.ensures; reads = c.read_from-r.ensures } in
    (reached_going read c.in-Upto.is c.reached.ensures, reached_here read c.in-Upto.is c.reached.ensures, reached_halts read c.in-Upto.is c.reached.ensures, c.requires.1)

pub shape_of-bytes-in-Upto : goal.shape_of-bytes-in-Upto
shape_of-bytes-in-Upto c = c.special.auto.bytes

pub shape_of-records-in-Upto : goal.shape_of-records-in-Upto
shape_of-records-in-Upto c = c.special.auto.records

pub shape_of-frames : goal.shape_of-frames
shape_of-frames c = c.special.auto.frames

pub shape_of-conds-in-Upto : goal.shape_of-conds-in-Upto
shape_of-conds-in-Upto c = c.read_from-r.auto.conds

pub shape_of-name : goal.shape_of-name
shape_of-name c = c.special.auto.name

pub shape_of-form : goal.shape_of-form
shape_of-form c = c.special.auto.form

pub shape_of-list : goal.shape_of-list
shape_of-list c = c.special.auto.list

pub shape_of-out : goal.shape_of-out
shape_of-out c = c.special.auto.out

pub shape_of-ranges : goal.shape_of-ranges
shape_of-ranges c = c.special.auto.ranges

pub shape_of-stack : goal.shape_of-stack
shape_of-stack c = c.special.auto.stack

pub shape_of-work : goal.shape_of-work
shape_of-work c = c.special.auto.work

pub shape_of-quoted : goal.shape_of-quoted
shape_of-quoted c = c.special.auto.quoted

pub shape_of-decimal : goal.shape_of-decimal
shape_of-decimal c = c.special.auto.decimal

pub shape_of-text-in-Upto : goal.shape_of-text-in-Upto
shape_of-text-in-Upto c = c.special.auto.text ∙ c.read_from-r.auto.text

pub shape_of-map-in-Upto : goal.shape_of-map-in-Upto
shape_of-map-in-Upto c = c.special.auto.map ∙ c.read_from-r.auto.map

pub returns-in-Upto : goal.returns-in-Upto
returns-in-Upto c =
    let read : Reaches c.args.files.now c.args.table.now (bufs c.args.text.now c.args.map.now c.args.bytes.now c.args.records.now c.args.frames.now c.args.conds.now) c.args.z c.body_at-s.result.now c.read_from-r.result
    c.read_from-r.new.text c.read_from-r.new.map c.read_from-r.new.conds
    = record { going = c.requires.0; some_open = c.if-z-eq0.false; body_is = c.body_at-s.ensures; reads = c.read_from-r.ensures } in
    advance_on read c.in-Upto.is c.reached.ensures c.args.set c.args.limit
    c.special.new.text c.special.new.map c.special.new.bytes c.special.new.records c.special.new.frames c.special.result
    c.special.auto.bytes c.special.ensures

pub returns-in-Refused : goal.returns-in-Refused
returns-in-Refused c =
    let read : Reaches c.args.files.now c.args.table.now (bufs c.args.text.now c.args.map.now c.args.bytes.now c.args.records.now c.args.frames.now c.args.conds.now) c.args.z c.body_at-s.result.now c.read_from-r.result
    c.read_from-r.new.text c.read_from-r.new.map c.read_from-r.new.conds
    = record { going = c.requires.0; some_open = c.if-z-eq0.false; body_is = c.body_at-s.ensures; reads = c.read_from-r.ensures } in
    advance_stopped read c.in-Refused.is c.reached-in-Refused.ensures c.args.set c.args.limit c.refuse.result c.refuse.ensures
