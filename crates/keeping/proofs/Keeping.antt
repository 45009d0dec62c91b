-- Laws of a directive that is copied and kept as state: what is lent to write it, and the turn of each answer.
-- Assumes nothing.
use Prim.Native.Nat.{ℕ, ◌<◌, ◌≤◌}
use mathlib.Core.List.{List}
use mathlib.Core.Path.{◌≡◌, refl, sym, ap, ◌∙◌, subst}
use native.Mathlib.Omega.{arith}
use lib.Dec.{ltb}
use lib.ListN.{length, length-take, length-drop}
use Rattle.std.specs.Prelude.{Ok, Err}
use Rattle.text.specs.Bytes.{part}
use Rattle.lex.specs.declared.Token.{Token}
use Rattle.lex.specs.Faults.{fault}
use Rattle.lex.proofs.Tests.{by_test}
use Rattle.lex.proofs.Progress.{Inside}
use Rattle.directive.specs.declared.Value.{Value}
use Rattle.directive.specs.declared.Form.{Form}
use Rattle.directive.specs.declared.Form.TheVariants.{Formed, Unformed, Barred}
use Rattle.directive.specs.Forms.{form_at}
use Rattle.settings.specs.declared.Settings.{Settings}
use Rattle.settings.specs.Settings.{set_by}
use Rattle.writing.specs.declared.Spot.{Spot}
use Rattle.writing.specs.declared.Wrote.{Wrote}
use Rattle.writing.specs.declared.Wrote.TheVariants.{Upto, Full}
use Rattle.writing.specs.Written.{Written, placed, map_of, Room, Put, full, fitted, put_in}
use Rattle.writing.specs.Buffers.{room_of, Writable, WroteBy}
use Rattle.turns.specs.States.{Frame, Here, refuse_at, behind, on_put, write, place_here}
use Rattle.turns.specs.Acts.{on_form, keeps, keep_act}
use Rattle.turns.specs.Performing.{perform}
use Rattle.turns.proofs.Forms.{form_inside, form_bars}
use Rattle.turns.specs.Asking.{EndsIn}
use Rattle.turns.proofs.Asking.{ends_at}
use Rattle.keeping.specs.Keeping.{KeepHere, Keepable, KeptBy}

PutSome : Put → Type 0
PutSome (full n) = 0 < n
PutSome (fitted r) = Unit {0}

put_some : (r : Room) (ws : List Written) → PutSome (put_in r ws)
unfolding PutSome put_in
put_some r ws =
    by_test PutSome (ltb r.bytes (length ws)) (λ e. omega arith)
    (λ e. by_test PutSome (ltb r.lines (length (map_of r.fresh ws))) (λ e. omega arith) (λ e. tt))

-- a refusal for want of room has a number
pub put_number : (r : Room) (ws : List Written) (n : ℕ) → put_in r ws ≡ full n → 0 < n
unfolding PutSome
put_number r ws n e = subst PutSome e (put_some r ws)

part_short : (s : List ℕ) (a e : ℕ) → length (part s a e) ≤ length s
part_short s a e = rw (length-take, length-drop) (omega arith)

-- the places of a part of the file are numbers of 32 bits
pub keep_writable : {s : List ℕ} {place : ℕ} {text map : List ℕ} {z : Spot} (w : List ℕ) (a e : ℕ) → Keepable s place text map z
    → w ≡ part s a e → Writable w place 1 text map z
keep_writable {s} w a e k f =
    let n : length w ≤ length s = subst (λ (v : List ℕ). length v ≤ length s) (sym f) (part_short s a e) in
    record {
      in_text = k.in_text;
      in_map = k.in_map;
      in_place = omega (arith, n, k.small, k.place_small);
    }

-- writing, once what is written, the state then and the room are known
write_is : (h : Here) (fs : List Frame) {ws ws' : List Written} {c c' : Settings} {r : Room} {p : Put} → ws ≡ ws' → c ≡ c'
    → h.state.room ≡ r → put_in r ws' ≡ p → write h ws fs c ≡ on_put h ws' fs c' p
write_is h fs {ws} {ws'} {c} {c'} {r} {p} e f g i =
    ap (λ (x : List Written). write h x fs c) e ∙ ap (λ (x : Settings). write h ws' fs x) f
    ∙ ap (λ (x : Room). on_put h ws' fs c' (put_in x ws')) g ∙ ap (λ (x : Put). on_put h ws' fs c' x) i

-- the directive d at h; f: the form it is found to be of
module _ (d : ℕ) {h : Here} {s : List ℕ} {t : Token} {set place : ℕ} {c : Settings} {text map : List ℕ} {z : Spot} (k : KeepHere h s t set place c text map z)
    {f : Form} (found : f ≡ form_at d s t.end) where
  turn_of : {g : Form} → f ≡ g
      → perform h (keep_act d h) ≡ perform h (on_form h.token.at g keeps)
  turn_of {g} e =
      let here : form_at d h.body h.token.end ≡ g = rw (k.body_is, k.token_is) (sym found ∙ e) in
      ap (λ (x : Form). perform h (on_form h.token.at x keeps)) here

  refuse_is : (n : ℕ) → refuse_at h n h.token.at ≡ refuse_at h n t.at
  refuse_is n = ap (λ (x : Token). refuse_at h n x.at) k.token_is

  pub kept_unformed : f ≡ Unformed → KeptBy (Err (fault 7 t.at)) h (keep_act d h) text text map map z
  kept_unformed e = (turn_of e ∙ refuse_is 7, omega arith, refl, refl)

  pub kept_barred : (n p : ℕ) → f ≡ Barred n p → KeptBy (Err (fault n p)) h (keep_act d h) text text map map z
  kept_barred n p e = (turn_of e, omega (arith, (form_bars s d t.end n p (sym found ∙ e)).low), refl, refl)

  -- v, e: what it says and its end; w: its bytes; r: the answer to writing them
  module _ {v : Value} {e : ℕ} (formed : f ≡ Formed v e) {w : List ℕ} (bytes : w ≡ part s t.at e) where
    -- the turn, once it is known whether there is room
    turn_put : {p : Put} → put_in (room_of (length text) (length map) z) (placed 1 place w) ≡ p
        → perform h (keep_act d h) ≡ on_put h (placed 1 place w) (behind h e) (set_by v set c) p
    turn_put i =
        let b : part h.body h.token.at e ≡ w = rw (k.body_is, k.token_is) (sym bytes) in
        let a : placed 1 (place_here h) (part h.body h.token.at e) ≡ placed 1 place w = rw (k.place_is, b) in
        let q : set_by v h.context.set h.state.settings ≡ set_by v set c =
        ap (λ (x : ℕ). set_by v x h.state.settings) k.set_is ∙ ap (λ (x : Settings). set_by v set x) k.settings_are in
        turn_of formed ∙ write_is h (behind h e) a q k.room_is i

    formed_ends : EndsIn h e
    formed_ends l =
        let b : Inside h.body h.token.end e = rw (k.body_is, k.token_is) (form_inside s t.end (rw (k.body_is, k.token_is) at l) d v e (sym found ∙ formed)) in
        ends_at h e b

    module _ (text' map' : List ℕ) {r : Wrote} (wrote : WroteBy r (placed 1 place w) text text' map map' z) where
      pub kept_full : {n : ℕ} → r ≡ Full n → KeptBy (Err (fault n t.at)) h (keep_act d h) text text' map map' z
      kept_full {n} i =
          let o : WroteBy (Full n) (placed 1 place w) text text' map map' z =
          subst (λ (x : Wrote). WroteBy x (placed 1 place w) text text' map map' z) i wrote in
          (turn_put o.0 ∙ refuse_is n, put_number (room_of (length text) (length map) z) (placed 1 place w) n o.0, o.1, o.2)

      pub kept_to : {y : Spot} → r ≡ Upto y → {c' : Settings} → c' ≡ set_by v set c → KeptBy (Ok (c', y, e)) h (keep_act d h) text text' map map' z
      kept_to {y} i {c'} j =
          let o : WroteBy (Upto y) (placed 1 place w) text text' map map' z =
          subst (λ (x : Wrote). WroteBy x (placed 1 place w) text text' map map' z) i wrote in
          record {
            written = placed 1 place w;
            turn_is =
                turn_put o.1
                ∙ ap (λ (x : Settings). on_put h (placed 1 place w) (behind h e) x (fitted (room_of (length text) (length map) y))) (sym j);
            ends = formed_ends;
            puts = o.0;
            in_text = o.2;
            in_map = o.3;
          }
