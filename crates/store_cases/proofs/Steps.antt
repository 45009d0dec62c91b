-- After a definition, a removal or start macros the buffers hold macros, as many as the answer says, at most 256.
-- Assumes nothing.
use Prim.Native.Nat.{ℕ, ◌≤◌}
use native.Mathlib.Omega.{arith}
use mathlib.Core.Bool.{Bool, true, false, cond}
use mathlib.Core.List.{List, []}
use mathlib.Core.Path.{◌≡◌, refl, sym, subst, ◌∙◌}
use lib.ListN.{length}
use Rattle.definition.specs.Definitions.{Macro, Definition, barred, bad, good}
use Rattle.store.specs.Stores.{define, undefine, fits}
use Rattle.store.specs.Buffers.{Holds}
use Rattle.macros.specs.Defining.{answer_to, macros_after, Reads}
use Rattle.macros.specs.Starting.{started, starts_fit}
use Rattle.macros.specs.declared.ReadIn.{ReadIn}
use Rattle.macros.specs.declared.ReadIn.TheVariants as read
use Rattle.macros.proofs.Kept.{started_sound, fits_few, undefine_few}
use Rattle.store_cases.specs.Kept.{Kept, counted}

-- ---- definitions

-- the number by an answer is that of the macros then, at most 256
record Tallied (n : ℕ) (a : ReadIn) (ms : List Macro) : Type 0 where
  count : counted a n ≡ length ms
  few : length ms ≤ 256

tallied : (records bytes n : ℕ) (ms : List Macro) (d : Definition) → n ≡ length ms → n ≤ 256
    → Tallied n (answer_to records bytes ms d) (macros_after records bytes ms d)
tallied records bytes n ms (barred k p) e h = record { count = e; few = omega arith }
tallied records bytes n ms (bad k) e h = record { count = e; few = omega arith }
tallied records bytes n ms (good m k) e h = go (fits records bytes (define m ms)) refl
  where
    go : (b : Bool) → fits records bytes (define m ms) ≡ b
        → Tallied n (cond b (read.Done (length (define m ms)) k) read.NoRoom) (cond b (define m ms) ms)
    go true q = record { count = refl; few = fits_few records bytes (define m ms) q }
    go false q = record { count = e; few = omega arith }

pub after_definition : {d : Definition} {b b' : List ℕ} {r r' : List (List ℕ)} {a : ReadIn} {n n' : ℕ}
    → ((ms : List Macro) → Holds ms b r n → Reads d ms b b' r r' a) → Kept b r n → n' ≡ counted a n → Kept b' r' n'
after_definition {d} {b} {b'} {r} {r'} {a} {n} {n'} f h e =
    let ms = h.stored.macros in
    let q = f ms h.stored.holds in
    let after = macros_after (length r) (length b) ms d in
    let t : Tallied n a after = subst (λ (y : ReadIn). Tallied n y after) (sym q.answer) (tallied (length r) (length b) n ms d h.stored.holds.count h.few) in
    record {
      stored = record { macros = after; holds = record { bytes = q.holds.bytes; rows = q.holds.rows; count = e ∙ t.count } };
      few = omega (arith, e, t.count, t.few);
    }

-- ---- removals and start macros

pub after_removal : (w : List ℕ) {b b' : List ℕ} {r r' : List (List ℕ)} {n n' : ℕ}
    → ((ms : List Macro) → Holds ms b r n → Holds (undefine w ms) b' r' n') → Kept b r n → Kept b' r' n'
after_removal w f h =
    let ms = h.stored.macros in
    let q = f ms h.stored.holds in
    record {
      stored = record { macros = undefine w ms; holds = q };
      few = omega (arith, h.stored.holds.count, q.count, undefine_few w ms, h.few);
    }

pub after_starts : (records bytes : ℕ) (s : List ℕ) (vs : List (List ℕ)) {b : List ℕ} {r : List (List ℕ)} {n : ℕ}
    → starts_fit records bytes s vs ≡ true → Holds (started s vs) b r n → Kept b r n
after_starts records bytes s vs h q =
    record {
      stored = record { macros = started s vs; holds = q };
      few = omega (arith, q.count, (started_sound records bytes s vs h).few);
    }

-- no macros
pub emptied : {b : List ℕ} {r : List (List ℕ)} → Holds [] b r 0 → Kept b r 0
emptied h = record { stored = record { macros = []; holds = h }; few = omega arith }
