-- What reading and the step behind it come to, by what the code knows.
-- Assumes nothing.
use Prim.Native.Nat.{ℕ, ◌-◌, ◌<◌, ◌≤◌}
use mathlib.Core.Bool.{true}
use mathlib.Core.List.{List}
use mathlib.Core.Path.{◌≡◌, refl, sym, ap, subst, subst⁻¹, ◌∙◌}
use native.Mathlib.Omega.{arith}
use lib.ListN.{length}
use Rattle.lex.specs.declared.Token.{Token}
use Rattle.definition.specs.Definitions.{Macro}
use Rattle.store.specs.Buffers.{Holds, Stored}
use Rattle.writing.specs.declared.Spot.{Spot}
use Rattle.places.specs.Places.{place_of}
use Rattle.blocks.specs.Stacks.{BlocksIn}
use Rattle.blocks.specs.declared.Blocks.{Blocks}
use Rattle.handover.specs.Entries.{all_entries, body_of}
use Rattle.copying.specs.Copying.{Copyable}
use Rattle.copying.specs.declared.Cursor.{Cursor}
use Rattle.turns.specs.States.{Context}
use Rattle.turns.specs.Acts.{act_at}
use Rattle.turns.specs.Turns.{token_turn}
use Rattle.reading.specs.Reading.{Stays, Halts, ReachedBy, StaysBy}
use Rattle.reading.specs.declared.Reached.{Reached}
use Rattle.reading.specs.declared.Reached.TheVariants as reached
use Rattle.steps.specs.declared.stage.Stage.{Stage}
use Rattle.steps.specs.declared.stage.Step.{Step}
use Rattle.steps.specs.Standing.{Bufs, bufs, outer_frames, here_of, ended_at, reached_at, Ok, Fixed, At, Performs}
use Rattle.dispatch.specs.Going.{Going, GoingIn}
use Rattle.running.specs.Ending.{ReadFrom, AdvancedBy, AdvancesBy}
use Rattle.running.proofs.Advancing.{Led, turn_here, stepped, read_led, advance_refused, fixed_on}
use Rattle.turns.proofs.Unfinished.{token_unfinished}

-- reading went from the stage z, in the file s, to r
pub record Reaches (store : List ℕ) (table : List (List ℕ)) (B : Bufs) (z : Stage) (s : List ℕ) (r : Reached) (text' map' : List ℕ) (conds' : List (List ℕ)) : Type 0 where
  pub going : Going store table B z
  pub some_open : z.depth ≡ 0 → ⊥
  pub body_is : s ≡ body_of store table z.file
  pub reads : ReadFrom r s z B.bytes B.records B.conds conds' B.text text' B.map map'

-- what reading is lent
pub read_lent : {store : List ℕ} {table : List (List ℕ)} {B : Bufs} {z : Stage} {s : List ℕ} → Going store table B z → s ≡ body_of store table z.file
    → (z.file ≤ 63) × Copyable s (place_of z.file 0) B.text B.map z.cursor z.spot × BlocksIn B.conds z.blocks × Stored B.bytes B.records z.macros
read_lent {B = B} {z} g e = (
  omega (arith, g.ok.file_in, g.few_entries),
  subst⁻¹ (λ (v : List ℕ). Copyable v (place_of z.file 0) B.text B.map z.cursor z.spot) e g.ok.copyable,
  g.ok.blocks_are,
  g.stored,
)

module _ {store : List ℕ} {table : List (List ℕ)} {B : Bufs} {z : Stage} {s : List ℕ} {r : Reached} {text' map' : List ℕ} {conds' : List (List ℕ)}
    (R : Reaches store table B z s r text' map' conds') where
  abbrev B₁ : Bufs
  B₁ = bufs text' map' B.bytes B.records B.frames conds'

  file_open : 0 < z.depth
  file_open = omega (arith, R.some_open)

  -- the body in the context of a run
  body_in : {x : Context} {set : ℕ} → Fixed x store table set B → body_of x.store x.table z.file ≡ s
  body_in f = rw (f.store_is, f.table_is) (sym R.body_is)

  came : {r₁ : Reached} → r ≡ r₁ → (x : Context) (limit : ℕ) (ms : List Macro) → body_of x.store x.table z.file ≡ s → Holds ms B.bytes B.records z.macros
      → ReachedBy r₁ s z.file x (outer_frames B.frames (z.depth - 1)) ms z.settings (limit - z.count) B.conds conds' B.text text' B.map map' z.cursor z.spot z.blocks
  came e x limit ms q i =
      subst (λ (v : Reached). ReachedBy v s z.file x (outer_frames B.frames (z.depth - 1)) ms z.settings (limit - z.count) B.conds conds' B.text text' B.map map' z.cursor z.spot z.blocks)
      e (R.reads.1 x (outer_frames B.frames (z.depth - 1)) ms z.settings (limit - z.count) q i)

  module _ {c : Cursor} {y : Spot} {k : Blocks} {t : Token} {d : ℕ} (e : r ≡ reached.Upto c y k t d) {z₁ : Stage} (there : z₁ ≡ reached_at z c y k) where
    stood : Stays s z.file conds' text' map' c y k
    stood = subst (λ (v : Reached). StaysBy v s z.file conds' text' map') e R.reads.0

    stage_ok : Ok store table B₁ (reached_at z c y k)
    stage_ok =
        record {
          few_files = R.going.ok.few_files;
          file_in = R.going.ok.file_in;
          copyable = subst (λ (v : List ℕ). Copyable v (place_of z.file 0) text' map' c y) R.body_is stood.copyable;
          outer = R.going.ok.outer;
          frames_lent = R.going.ok.frames_lent;
          blocks_are = stood.blocks_are;
          few_macros = R.going.ok.few_macros;
        }

    pub reached_ok : Ok store table B₁ z₁
    reached_ok = subst⁻¹ (λ (v : Stage). Ok store table B₁ v) there stage_ok

    stored_there : Stored B.bytes B.records z₁.macros
    stored_there = subst⁻¹ (λ (v : Stage). Stored B.bytes B.records v.macros) there R.going.stored

    pub reached_going : GoingIn store table text' map' B.bytes B.records B.frames z₁
    reached_going =
        record {
          conds = conds';
          going = record { ok = reached_ok; entries = R.going.entries; few_entries = R.going.few_entries; bytes_small = R.going.bytes_small; stored = stored_there };
        }

    halted : Halts s c t d
    halted = (came e (record { store = store; table = table; set = 0; records = 0; bytes = 0 }) 0 R.going.stored.macros (sym R.body_is) R.going.stored.holds).1

    pub reached_halts : Halts s z₁.cursor t d
    reached_halts = subst⁻¹ (λ (v : Stage). Halts s v.cursor t d) there halted

    pub reached_here : At store table s t z₁
    reached_here =
        subst⁻¹ (λ (v : Stage). At store table s t v) there
        (record { open_file = file_open; body_is = sym R.body_is; token_is = sym halted.token_is })

    pub advance_on : (set limit : ℕ) (tx mp bs : List ℕ) (rs fr : List (List ℕ)) (v : Step) → length bs ≡ length B.bytes
        → ((cd : List (List ℕ)) → Performs v store table set limit s t (bufs text' map' B.bytes B.records B.frames cd) (bufs tx mp bs rs fr cd) z₁ (λ h. act_at h))
        → AdvancesBy v set limit store table B (bufs tx mp bs rs fr conds') z
    advance_on set limit tx mp bs rs fr v b w x ms f i =
        let a : all_entries x.store x.table ≡ true = rw (f.store_is, f.table_is) f.entries in
        let l : Led x limit B B₁ ms z z₁ =
        subst⁻¹ (λ (j : Stage). Led x limit B B₁ ms z j) there
        (read_led x limit B text' map' conds' ms z s c y k a file_open (came e x limit ms (body_in f) i).0) in
        let o : 0 < z₁.depth = subst⁻¹ (λ (j : Stage). 0 < j.depth) there file_open in
        let n : Holds ms B.bytes B.records z₁.macros = subst⁻¹ (λ (j : Stage). Holds ms B.bytes B.records j.macros) there i in
        let h = here_of x limit B₁ ms z₁ in
        stepped x limit store table B B₁ (bufs tx mp bs rs fr conds') ms z z₁ v (token_turn h) a R.going b l (turn_here x limit B₁ ms z₁ o) (token_unfinished h)
        (w conds' reached_here x ms (fixed_on f refl refl) reached_ok n)

  module _ {c : Cursor} {y : Spot} {k : Blocks} {n p : ℕ} (e : r ≡ reached.Refused c y k n p) {z₁ : Stage} (there : z₁ ≡ reached_at z c y k) where
    pub advance_stopped : (set limit : ℕ) (v : Step) → v ≡ ended_at z₁ n z₁.file p
        → AdvancesBy v set limit store table B B₁ z
    advance_stopped set limit v q x ms f i =
        let a : all_entries x.store x.table ≡ true = rw (f.store_is, f.table_is) f.entries in
        let m = came e x limit ms (body_in f) i in
        subst⁻¹ (λ (j : Step). AdvancedBy j x limit store table B B₁ ms z) (q ∙ ap (λ (j : Stage). ended_at j n j.file p) there)
        (advance_refused x limit B text' map' conds' ms z s c y k a file_open m.0 n p i m.1)
