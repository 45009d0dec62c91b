-- One advance of a run, and the run to its end, over the states that stages stand for.
-- Assumes nothing.
use Prim.Native.Nat.{ℕ, zero, suc, max, ◌+◌, ◌-◌, ◌<◌, ◌≤◌}
use mathlib.Core.Bool.{true}
use mathlib.Core.List.{List, [], ◌∷◌}
use mathlib.Core.Path.{◌≡◌, refl, sym, ap, subst, subst⁻¹, ◌∙◌}
use native.Mathlib.Nat.{add-zero, add_assoc, max-zero}
use native.Mathlib.Omega.{arith}
use lib.ListN.{length, length-append, get_or}
use Rattle.definition.specs.Definitions.{Macro}
use Rattle.store.specs.Buffers.{Holds}
use Rattle.writing.specs.Written.{Written, text_of, map_of, fresh_after}
use Rattle.writing.specs.Buffers.{room_of, Puts}
use Rattle.writing.specs.declared.Spot.{Spot}
use Rattle.writing.proofs.Laws.{puts_none, text_length, text_append, fresh_append, map_append, sets_append, puts_text, puts_map}
use Rattle.blocks.specs.Blocks.{Conditional}
use Rattle.blocks.specs.Stacks.{open_in, BlocksIn}
use Rattle.blocks.proofs.Opening.{open_top}
use Rattle.blocks.specs.declared.Blocks.{Blocks}
use Rattle.handover.specs.Entries.{all_entries}
use Rattle.copying.specs.declared.Cursor.{Cursor}
use Rattle.turns.specs.States.{Context, Frame, State, Made, writes, nothing, Turn, more, stop, finished}
use Rattle.turns.specs.Turns.{token_turn, last_turn, frame_turn, turn_at}
use Rattle.turns.specs.Leading.{Leads, standing}
use Rattle.turns.specs.Runs.{Run, ends, onto, measure, run_from}
use Rattle.turns.proofs.Progress.{turn_falls}
use Rattle.turns.proofs.Running.{run_more, run_stop, run_finished, onto_nothing}
use Rattle.turns.proofs.Leading.{leads_run, leads_falls}
use Rattle.reading.specs.Reading.{ReadsTo}
use Rattle.steps.specs.declared.stage.Stage.{Stage}
use Rattle.steps.specs.declared.stage.Step.{Step}
use Rattle.steps.specs.declared.stage.Step.TheVariants as step
use Rattle.steps.specs.Standing.{Bufs, bufs, outer_frames, open_frames, state_of, here_of, ended_at, reached_at, Ok, Fixed, is_end, SteppedBy}
use Rattle.dispatch.specs.Going.{Going}
use Rattle.steps.proofs.Going.{open_first}
use Rattle.running.specs.Ending.{last_step, finish, ended, Advances, Finishes, AdvancedBy, AdvancesBy}

-- the measure is of the store and the table alone
pub measure_same : (x y : Context) (fs : List Frame) → x.store ≡ y.store → x.table ≡ y.table → measure x fs ≡ measure y fs
unfolding measure
measure_same x y [] e f = refl
measure_same x y (g ∷ fs) e f = rw (measure_same x y fs e f, e, f)

-- ---- how it ends from a stage on

finish_onto : (B B' : Bufs) (z z' : Stage) (m : Made) (r : Run)
    → Puts m.text B.text B'.text B.map B'.map z.spot z'.spot
    → z'.count ≡ z.count + m.count → z'.deepest ≡ max z.deepest m.depth
    → finish B z (onto m r) ≡ finish B' z' r
finish_onto B B' z z' m r p c d =
    let b : max z.deepest (max m.depth r.depth) ≡ max (max z.deepest m.depth) r.depth = omega arith in
    rw (p.spot, p.bytes, p.lines, c, d, b)
    (simp (length-append, map_append, fresh_append, add_assoc, text_append, sets_append, text_length))

finish_ends : (limit : ℕ) (B B₀ : Bufs) (ms : List Macro) (z z₀ : Stage) (n f p : ℕ) → z.settings ≡ z₀.settings
    → finish B z (ends (state_of limit B₀ ms z₀) n f p) ≡ ended B z n f p ms
unfolding text_of map_of fresh_after
finish_ends limit B B₀ ms z z₀ n f p e =
    rw (e, add-zero z.count, max-zero z.deepest, add-zero z.spot.written, add-zero z.spot.lines)

-- ---- the state that a stage stands for

pub turn_here : (x : Context) (limit : ℕ) (B : Bufs) (ms : List Macro) (z : Stage) → 0 < z.depth
    → turn_at x (state_of limit B ms z) ≡ token_turn (here_of x limit B ms z)
unfolding turn_at
turn_here x limit B ms z h =
    ap (λ (fs : List Frame). frame_turn x (state_of limit B ms z) fs) (open_first B.frames z.depth z.file z.cursor h)

turn_last : (x : Context) (limit : ℕ) (B : Bufs) (ms : List Macro) (z : Stage) → z.depth ≡ 0
    → turn_at x (state_of limit B ms z) ≡ last_turn (open_in B.conds z.blocks.open)
unfolding turn_at
turn_last x limit B ms z h =
    ap (λ (d : ℕ). frame_turn x (state_of limit B ms z) (open_frames B.frames d z.file z.cursor)) h

state_standing : (limit : ℕ) (B : Bufs) (ms : List Macro) (z : Stage) (text map : List ℕ) → length B.text ≡ length text → length B.map ≡ length map
    → 0 < z.depth
    → standing (outer_frames B.frames (z.depth - 1)) ms z.settings (limit - z.count) z.file z.cursor (open_in B.conds z.blocks.open) (room_of (length text) (length map) z.spot)
    ≡ state_of limit B ms z
state_standing limit B ms z text map e f h = rw (e, f, open_first B.frames z.depth z.file z.cursor h)

-- ---- what a step after some turns comes to

-- turns led to the stage z₁
pub record Led (x : Context) (limit : ℕ) (B B₁ : Bufs) (ms : List Macro) (z z₁ : Stage) : Type 0 where
  pub same_end : finish B z (run_from x (state_of limit B ms z)) ≡ finish B₁ z₁ (run_from x (state_of limit B₁ ms z₁))
  pub falls : measure x (state_of limit B₁ ms z₁).frames ≤ measure x (state_of limit B ms z).frames

led_none : {x : Context} {limit : ℕ} {B : Bufs} {ms : List Macro} {z : Stage} → Led x limit B B ms z z
led_none = record { same_end = refl; falls = omega arith }

led_by : (x : Context) (limit : ℕ) (B B₁ : Bufs) (ms : List Macro) (z z₁ : Stage) (ws : List Written) → all_entries x.store x.table ≡ true
    → Leads x (state_of limit B ms z) ws (state_of limit B₁ ms z₁)
    → Puts ws B.text B₁.text B.map B₁.map z.spot z₁.spot
    → z₁.count ≡ z.count → z₁.deepest ≡ z.deepest → Led x limit B B₁ ms z z₁
led_by x limit B B₁ ms z z₁ ws ok l p c d =
    record {
      same_end =
          ap (finish B z) (leads_run x ok l)
          ∙ finish_onto B B₁ z z₁ (writes ws) _ p (c ∙ sym (add-zero z.count)) (d ∙ sym (max-zero z.deepest));
      falls = leads_falls x ok l;
    }

-- an end of the run
end_run_is : (x : Context) (limit : ℕ) (B B' : Bufs) (ms : List Macro) (z z' : Stage) (n f p : ℕ) (m : Made)
    → turn_at x (state_of limit B ms z) ≡ is_end n f p m → (n ≡ 0 → (f ≡ 0) × (p ≡ 0) × (m ≡ nothing)) → z'.settings ≡ z.settings
    → Puts m.text B.text B'.text B.map B'.map z.spot z'.spot
    → z'.count ≡ z.count + m.count → z'.deepest ≡ max z.deepest m.depth
    → finish B z (run_from x (state_of limit B ms z)) ≡ ended B' z' n f p ms
end_run_is x limit B B' ms z z' (suc n) f p m e g st q c d =
    ap (finish B z) (run_stop x (state_of limit B ms z) (suc n) f p m e)
    ∙ finish_onto B B' z z' m (ends (state_of limit B ms z) (suc n) f p) q c d ∙ finish_ends limit B' B ms z' z (suc n) f p st
end_run_is x limit B B' ms z z' zero f p m e g st q c d =
    let a : run_from x (state_of limit B ms z) ≡ onto m (ends (state_of limit B ms z) 0 0 0) =
    run_finished x (state_of limit B ms z) e ∙ onto_nothing (ends (state_of limit B ms z) 0 0 0)
    ∙ ap (λ (k : Made). onto k (ends (state_of limit B ms z) 0 0 0)) (sym (g refl).2) in
    rw ((g refl).0, (g refl).1)
    (ap (finish B z) a ∙ finish_onto B B' z z' m (ends (state_of limit B ms z) 0 0 0) q c d ∙ finish_ends limit B' B ms z' z 0 0 0 st)

-- a stage that a step led to
going_on : {store : List ℕ} {table : List (List ℕ)} {B B' : Bufs} {z z' : Stage} {ms : List Macro} → Going store table B z → length B'.bytes ≡ length B.bytes
    → Ok store table B' z' → Holds ms B'.bytes B'.records z'.macros → Going store table B' z'
going_on {ms = ms} g e o h =
    record {
      ok = o;
      entries = g.entries;
      few_entries = g.few_entries;
      bytes_small = omega (arith, e, g.bytes_small);
      stored = record { macros = ms; holds = h };
    }

module _ (x : Context) (limit : ℕ) (store : List ℕ) (table : List (List ℕ)) (B B₁ B₂ : Bufs) (ms : List Macro) (z z₁ : Stage) where
  pub stepped : (t : Step) (u : Turn) → all_entries x.store x.table ≡ true → Going store table B z → length B₂.bytes ≡ length B.bytes
      → Led x limit B B₁ ms z z₁ → turn_at x (state_of limit B₁ ms z₁) ≡ u → (u ≡ finished → ⊥)
      → SteppedBy t store table limit B₁ B₂ ms z₁ u → AdvancedBy t x limit store table B B₂ ms z
  stepped (step.On z') u ok g b l e nf mo =
      let m = mo.0 in
      let o = mo.1 in
      let q : turn_at x (state_of limit B₁ ms z₁) ≡ more (state_of limit B₂ m.macros z') m.made = e ∙ m.turn_is in
      let a : measure x (state_of limit B₂ m.macros z').frames < measure x (state_of limit B₁ ms z₁).frames =
      turn_falls x (state_of limit B₁ ms z₁) (state_of limit B₂ m.macros z') m.made ok q in
      record {
        macros = m.macros;
        holds = m.holds;
        same_end =
            l.same_end ∙ ap (finish B₁ z₁) (run_more x (state_of limit B₁ ms z₁) (state_of limit B₂ m.macros z') m.made ok q)
            ∙ finish_onto B₁ B₂ z₁ z' m.made (run_from x (state_of limit B₂ m.macros z')) m.puts m.count_is m.deepest_is;
        less = omega (arith, a, l.falls);
        going = going_on g b o m.holds;
      }
  stepped (step.Ended z' n f p) u ok g b l e nf m =
      record {
        macros = ms;
        holds = m.holds;
        the_end =
            l.same_end
            ∙ end_run_is x limit B₁ B₂ ms z₁ z' n f p m.made (e ∙ m.turn_is) (λ i. absurd (nf (m.turn_is ∙ ap (λ (k : ℕ). is_end k f p m.made) i))) m.settings_same m.puts m.count_is m.deepest_is;
      }

-- reading led on in the innermost file
module _ (x : Context) (limit : ℕ) (B : Bufs) (text' map' : List ℕ) (conds' : List (List ℕ)) (ms : List Macro) (z : Stage) (s : List ℕ) (c : Cursor) (y : Spot) (k : Blocks)
    (ok : all_entries x.store x.table ≡ true) (h : 0 < z.depth)
    (r : ReadsTo s z.file x (outer_frames B.frames (z.depth - 1)) ms z.settings (limit - z.count) B.conds conds' B.text text' B.map map' z.cursor c z.spot y z.blocks k) where
  abbrev B₁ : Bufs
  B₁ = bufs text' map' B.bytes B.records B.frames conds'

  read_there : standing (outer_frames B.frames (z.depth - 1)) ms z.settings (limit - z.count) z.file c (open_in conds' k.open) (room_of (length B.text) (length B.map) y)
      ≡ state_of limit B₁ ms (reached_at z c y k)
  read_there = state_standing limit B₁ ms (reached_at z c y k) B.text B.map (puts_text r.puts) (puts_map r.puts) h

  pub read_led : Led x limit B B₁ ms z (reached_at z c y k)
  read_led =
      led_by x limit B B₁ ms z (reached_at z c y k) r.written ok
      (subst (λ (S : State). Leads x S r.written (state_of limit B₁ ms (reached_at z c y k))) (state_standing limit B ms z B.text B.map refl refl h)
      (subst (λ (S : State). Leads x (standing (outer_frames B.frames (z.depth - 1)) ms z.settings (limit - z.count) z.file z.cursor (open_in B.conds z.blocks.open) (room_of (length B.text) (length B.map) z.spot)) r.written S) read_there r.leads))
      r.puts refl refl

  pub advance_refused : (n p : ℕ) → Holds ms B.bytes B.records z.macros
      → turn_at x (standing (outer_frames B.frames (z.depth - 1)) ms z.settings (limit - z.count) z.file c (open_in conds' k.open) (room_of (length B.text) (length B.map) y)) ≡ stop n z.file p nothing
      → Finishes x limit B B₁ ms z (reached_at z c y k) n z.file p
  advance_refused n p i e =
      let z₁ = reached_at z c y k in
      let q : turn_at x (state_of limit B₁ ms z₁) ≡ stop n z.file p nothing = subst (λ (S : State). turn_at x S ≡ stop n z.file p nothing) read_there e in
      record {
        macros = ms;
        holds = i;
        the_end =
            read_led.same_end ∙ ap (finish B₁ z₁) (run_stop x (state_of limit B₁ ms z₁) n z.file p nothing q)
            ∙ finish_onto B₁ B₁ z₁ z₁ nothing (ends (state_of limit B₁ ms z₁) n z.file p) (puts_none text' map' y) (sym (add-zero z.count)) (sym (max-zero z.deepest))
            ∙ finish_ends limit B₁ B₁ ms z₁ z₁ n z.file p refl;
      }

-- the end of all files
pub advance_last : (x : Context) (limit : ℕ) (B : Bufs) (ms : List Macro) (z : Stage) (n f p : ℕ) → z.depth ≡ 0
    → last_turn (open_in B.conds z.blocks.open) ≡ is_end n f p nothing → (n ≡ 0 → (f ≡ 0) × (p ≡ 0)) → Holds ms B.bytes B.records z.macros
    → Finishes x limit B B ms z z n f p
advance_last x limit B ms z n f p d e g h =
    record {
      macros = ms;
      holds = h;
      the_end =
          end_run_is x limit B B ms z z n f p nothing (turn_last x limit B ms z d ∙ e) (λ i. ((g i).0, (g i).1, refl)) refl (puts_none B.text B.map z.spot)
          (sym (add-zero z.count)) (sym (max-zero z.deepest));
    }

pub advance_ended : {store : List ℕ} {table : List (List ℕ)} {set : ℕ} {B : Bufs} {z : Stage} (limit : ℕ) (t : Step) → Going store table B z → z.depth ≡ 0
    → t ≡ last_step z (open_in B.conds z.blocks.open) → AdvancesBy t set limit store table B B z
advance_ended {store} {table} {set} {B} {z} limit t g d e x ms f h =
    subst⁻¹ (λ (v : Step). AdvancedBy v x limit store table B B ms z) e (go (open_in B.conds z.blocks.open) refl)
  where
    go : (cs : List Conditional) → open_in B.conds z.blocks.open ≡ cs → AdvancedBy (last_step z cs) x limit store table B B ms z
    go [] q = advance_last x limit B ms z 0 0 0 d (ap last_turn q) (λ i. (refl, refl)) h
    go (k ∷ cs) q = advance_last x limit B ms z 8 k.file k.byte d (ap last_turn q) (λ i. absurd (omega (arith, i))) h

pub run_ended : (w : List (List ℕ)) (z : Stage) → z.blocks.open ≡ 0 → ended_at z 0 0 0 ≡ last_step z (open_in w z.blocks.open)
unfolding open_in
run_ended w z e = rw e

last_open : (w : List (List ℕ)) (z : Stage) (n : ℕ) (v : List ℕ) → (n ≡ 0 → ⊥) → n ≤ length w → v ≡ get_or w (n - 1) []
    → ended_at z 8 (get_or v 0 0) (get_or v 1 0) ≡ last_step z (open_in w n)
last_open w z zero v a l e = absurd (a refl)
last_open w z (suc n) v a l e =
    let k : suc n - 1 ≡ n = omega arith in
    let q : v ≡ get_or w n [] = e ∙ ap (λ (m : ℕ). get_or w m []) k in
    rw (open_top w n (omega arith), q)

pub run_open : (w : List (List ℕ)) (z : Stage) (v : List ℕ) → (z.blocks.open ≡ 0 → ⊥) → BlocksIn w z.blocks → v ≡ get_or w (z.blocks.open - 1) []
    → ended_at z 8 (get_or v 0 0) (get_or v 1 0) ≡ last_step z (open_in w z.blocks.open)
run_open w z v a b e = last_open w z z.blocks.open v a (omega (arith, b.few, b.lent)) e

-- ---- the invariant of the run

-- the lent buffers' lengths
pub record Kept (b₀ b : List ℕ) (r₀ r f₀ f c₀ c : List (List ℕ)) (n₀ n m₀ m : List ℕ) (l₀ l o₀ o g₀ g : List (List ℕ)) (s₀ s w₀ w q₀ q d₀ d t₀ t p₀ p : List ℕ) : Type 0 where
  pub bytes : length b ≡ length b₀
  pub records : length r ≡ length r₀
  pub frames : length f ≡ length f₀
  pub conds : length c ≡ length c₀
  pub name : length n ≡ length n₀
  pub form : length m ≡ length m₀
  pub list : length l ≡ length l₀
  pub out : length o ≡ length o₀
  pub ranges : length g ≡ length g₀
  pub stack : length s ≡ length s₀
  pub work : length w ≡ length w₀
  pub quoted : length q ≡ length q₀
  pub decimal : length d ≡ length d₀
  pub text : length t ≡ length t₀
  pub map : length p ≡ length p₀

-- the stage and buffers then, from those at the start, for some macros
pub record Gone (x : Context) (limit : ℕ) (B₀ B : Bufs) (ms : List Macro) (z₀ z : Stage) : Type 0 where
  pub macros : List Macro
  pub holds : Holds macros B.bytes B.records z.macros
  pub same_end : finish B₀ z₀ (run_from x (state_of limit B₀ ms z₀)) ≡ finish B z (run_from x (state_of limit B macros z))

pub record Runs (store : List ℕ) (table : List (List ℕ)) (set limit : ℕ) (B₀ B : Bufs) (z₀ z : Stage) : Type 0 where
  pub going : Going store table B z
  pub same_bytes : length B.bytes ≡ length B₀.bytes
  pub same_records : length B.records ≡ length B₀.records
  pub gone : (x : Context) (ms : List Macro) → Fixed x store table set B₀ → Holds ms B₀.bytes B₀.records z₀.macros → Gone x limit B₀ B ms z₀ z

pub runs_none : {store : List ℕ} {table : List (List ℕ)} {set limit : ℕ} {B : Bufs} {z : Stage} → Going store table B z → Runs store table set limit B B z z
runs_none g =
    record { going = g; same_bytes = refl; same_records = refl; gone = λ x ms f h. record { macros = ms; holds = h; same_end = refl } }

pub fixed_on : {x : Context} {store : List ℕ} {table : List (List ℕ)} {set : ℕ} {B₀ B : Bufs} → Fixed x store table set B₀
    → length B.bytes ≡ length B₀.bytes → length B.records ≡ length B₀.records → Fixed x store table set B
fixed_on f b r =
    record {
      store_is = f.store_is;
      table_is = f.table_is;
      set_is = f.set_is;
      records_are = f.records_are ∙ sym r;
      bytes_are = f.bytes_are ∙ sym b;
      entries = f.entries;
      few_entries = f.few_entries;
      bytes_small = omega (arith, b, f.bytes_small);
    }

-- the files alone
abbrev pub only : List ℕ → List (List ℕ) → Context
only store table = record { store = store; table = table; set = 0; records = 0; bytes = 0 }

abbrev pub weight_of : List ℕ → List (List ℕ) → List (List ℕ) → Stage → ℕ
weight_of store table frames z = measure (only store table) (open_frames frames z.depth z.file z.cursor)

module _ {store : List ℕ} {table : List (List ℕ)} {set limit : ℕ} {B₀ B : Bufs} {z₀ z : Stage} (h : Runs store table set limit B₀ B z₀ z) (t : Step) (B' : Bufs) where
  module _ (a : AdvancesBy t set limit store table B B' z) where
    module _ {y : Stage} (e : t ≡ step.On y) where
      advances : AdvancesBy (step.On y) set limit store table B B' z
      advances = subst (λ (v : Step). AdvancesBy v set limit store table B B' z) e a

      abbrev now_on : Context
      now_on = record { store = store; table = table; set = set; records = length B.records; bytes = length B.bytes }

      now_fixed : Fixed now_on store table set B
      now_fixed =
          record {
            store_is = refl;
            table_is = refl;
            set_is = refl;
            records_are = refl;
            bytes_are = refl;
            entries = h.going.entries;
            few_entries = h.going.few_entries;
            bytes_small = h.going.bytes_small;
          }

      first_on : Advances now_on limit store table B B' h.going.stored.macros z y
      first_on = advances now_on h.going.stored.macros now_fixed h.going.stored.holds

      pub runs_less : weight_of store table B'.frames y < weight_of store table B.frames z
      runs_less =
          let l = first_on.less in
          let p = measure_same now_on (only store table) (open_frames B'.frames y.depth y.file y.cursor) refl refl in
          let q = measure_same now_on (only store table) (open_frames B.frames z.depth z.file z.cursor) refl refl in
          rw (sym p, sym q) l

      pub runs_more : length B'.bytes ≡ length B.bytes → length B'.records ≡ length B.records → Runs store table set limit B₀ B' z₀ y
      runs_more b r =
          record {
            going = first_on.going;
            same_bytes = b ∙ h.same_bytes;
            same_records = r ∙ h.same_records;
            gone = λ x ms f k.
                let g = h.gone x ms f k in
                let v = advances x g.macros (fixed_on f h.same_bytes h.same_records) g.holds in
                record { macros = v.macros; holds = v.holds; same_end = g.same_end ∙ v.same_end };
          }

    pub runs_all : {y : Stage} {n f p : ℕ} → t ≡ step.Ended y n f p → (x : Context) (ms : List Macro) → Fixed x store table set B₀
        → Holds ms B₀.bytes B₀.records z₀.macros → Finishes x limit B₀ B' ms z₀ y n f p
    runs_all e x ms w k =
        let g = h.gone x ms w k in
        let v = subst (λ (s : Step). AdvancedBy s x limit store table B B' g.macros z) e (a x g.macros (fixed_on w h.same_bytes h.same_records) g.holds) in
        record { macros = v.macros; holds = v.holds; the_end = g.same_end ∙ v.the_end }
