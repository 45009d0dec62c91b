-- A macro of a new name put into the store, or refused for want of room. Assumes nothing.
use mathlib.Core.Path.{◌≡◌, refl, sym, ap, ◌∙◌, subst⁻¹}
use mathlib.Core.Bool.{Bool, true, false, cond, ◌&&◌}
use mathlib.Core.List.{List, [], ◌∷◌}
use Prim.Native.Nat.{ℕ, ◌+◌, ◌-◌, ◌≤◌, ◌<◌}
use native.Mathlib.Omega.{arith}
use borrow.Author.Tests.{le-leb, lt-leb}
use lib.Dec.{leb}
use lib.ListN.{length, take}
use Rattle.definition.specs.Definitions.{Macro}
use Rattle.packed.specs.Splicing.{spliced}
use Rattle.packed.specs.Records.{numbers_of, blank_record, moved_from}
use Rattle.packed.specs.declared.Record.{Record}
use Rattle.std.proofs.Common.{Option, Some, None}
use Rattle.store.specs.Stores.{macro_text, insert_at, encode, fits}
use Rattle.store.specs.Buffers.{Holds, FormIs, Lent, Inserts, Defines, defined_by}
use Rattle.store.proofs.Entries.{form_length, bytes_fit}
use Rattle.store.proofs.Places.{live_all}
use Rattle.store.proofs.Rooms.{length_insert, encode_insert_long, start_within, record_row, holds_insert}

-- a is where the form of macro i starts, whatever the macros are
abbrev pub Starts : List (List ℕ) → ℕ → ℕ → ℕ → Type 0
Starts r n i a = (ms : List Macro) (b : List ℕ) → Holds ms b r n → a ≡ length (encode (take i ms))

module _ {b : List ℕ} {r : List (List ℕ)} {n live : ℕ} (v : Starts r n n live) where
  pub live_is : {ms : List Macro} → Holds ms b r n → live ≡ length (encode ms)
  live_is {ms} h = live_all h (v ms b h)

  pub live_fits : {ms : List Macro} → Holds ms b r n → live ≤ length b
  live_fits h = omega (arith, live_is h, bytes_fit h)

-- the text of a form lies within it
pub text_within : {m : Macro} {f : List ℕ} {name text : ℕ} → FormIs m f name text → text ≤ length f
text_within {m} k = omega (arith, form_length m, k.text_is, ap length k.form_is)

-- ---- a macro put in

module _ {b : List ℕ} {r : List (List ℕ)} {n i : ℕ} {f : List ℕ} {name text a live : ℕ} (p : Inserts b r n i f name text)
    (s : Starts r n i a) (v : Starts r n n live) where
  start_live : a ≤ live
  start_live =
      let h : Holds p.lent.stored.macros b r n = p.lent.stored.holds in
      omega (arith, s p.lent.stored.macros b h, live_is v h, start_within i p.lent.stored.macros)

  room_live : live + length f ≤ length b
  room_live = omega (arith, p.room, live_is v p.lent.stored.holds)

  -- what moving the bytes needs
  pub bytes_room : (a + 0 ≤ live) × (live ≤ length b) × (live - 0 + length f ≤ length b)
  bytes_room = (omega (arith, start_live), omega (arith, room_live), omega (arith, room_live))

  -- where the new form's text starts
  pub text_small : a + text ≤ 65536
  text_small = omega (arith, start_live, room_live, p.lent.small, text_within p.lent.form-of)

  pub inserted : {b' : List ℕ} {r₁ r' : List (List ℕ)} → b' ≡ spliced 0 b a 0 f live
      → r₁ ≡ spliced blank_record r i 0 (numbers_of (record { start = a; name = name; text = a + text; size = length f - text }) ∷ []) n
      → r' ≡ moved_from (length f) 0 (i + 1) (n + 1) r₁
      → (ms : List Macro) (m : Macro) → Holds ms b r n → FormIs m f name text → Holds (insert_at i m ms) b' r' (n + 1)
  inserted {b'} {r₁} {r'} eb er₁ er ms m h k =
      let q : Record = record { start = a; name = name; text = a + text; size = length f - text } in
      let z : length f - text ≡ length (macro_text m) = omega (arith, form_length m, k.text_is, ap length k.form_is) in
      holds_insert h m f q i a (length f) live k.form_is refl p.place (s ms b h) (live_is v h)
      (record_row a m a name (a + text) (length f - text) refl k.name_is (ap (λ (x : ℕ). a + x) k.text_is) z)
      p.row p.lent.small room_live b' r₁ r' eb er₁ er

-- ---- room or none

own_count : {ms : List Macro} {b : List ℕ} {r : List (List ℕ)} {n : ℕ} → Holds ms b r n → Holds ms b r (length ms)
own_count h = record { bytes = h.bytes; rows = h.rows; count = refl }

module _ {recordsLent bytesLent : ℕ} {new ms : List Macro} {b : List ℕ} {r : List (List ℕ)} {n : ℕ} where
  pub refused : fits recordsLent bytesLent new ≡ false → Holds ms b r n → Defines recordsLent bytesLent new ms b r None
  refused e h =
      record {
        answer = sym (ap (λ (t : Bool). defined_by t new) e);
        holds = subst⁻¹ (λ (t : Bool). Holds (cond t new ms) b r (length (cond t new ms))) e (own_count h);
      }

  pub done : fits recordsLent bytesLent new ≡ true → Holds new b r n → Defines recordsLent bytesLent new ms b r (Some n)
  done e h =
      record {
        answer = ap Some h.count ∙ sym (ap (λ (t : Bool). defined_by t new) e);
        holds = subst⁻¹ (λ (t : Bool). Holds (cond t new ms) b r (length (cond t new ms))) e (own_count h);
      }

-- d answers the definition of a new macro, its place i, which leaves b' and r' of the buffers b and r
abbrev pub Answers : List ℕ → List (List ℕ) → ℕ → ℕ → List ℕ → ℕ → ℕ → List ℕ → List (List ℕ) → Option ℕ → Type 0
Answers b r n i f name text b' r' d =
    (ms : List Macro) (m : Macro) → Holds ms b r n → FormIs m f name text → Defines (length r) (length b) (insert_at i m ms) ms b' r' d

module _ {b : List ℕ} {r : List (List ℕ)} {n i live : ℕ} {f : List ℕ} {name text : ℕ} (l : i ≤ n) (v : Starts r n n live) where
  fits_new : {ms : List Macro} {m : Macro} → Holds ms b r n → FormIs m f name text
      → fits (length r) (length b) (insert_at i m ms) ≡ leb (n + 1) 256 && (leb (n + 1) (length r) && leb (live + length f) (length b))
  unfolding fits
  fits_new {ms} {m} h k =
      let x : length (insert_at i m ms) ≡ n + 1 = omega (arith, length_insert i ms m (omega (arith, h.count)), h.count) in
      let y : length (encode (insert_at i m ms)) ≡ live + length f = omega (arith, encode_insert_long i ms m, live_is v h, ap length k.form_is) in
      rw (x, y)

  -- the number of macros is full
  pub no_number : 256 ≤ n → Answers b r n i f name text b r None
  no_number o ms m h k = refused (fits_new h k ∙ rw (lt-leb (n + 1) 256 (omega arith))) h

  -- there is no record for it
  pub no_record : n < 256 → length r ≤ n → Answers b r n i f name text b r None
  no_record o w ms m h k = refused (fits_new h k ∙ rw (le-leb (n + 1) 256 (omega arith), lt-leb (n + 1) (length r) (omega arith))) h

  -- there are too few bytes for it
  pub no_bytes : n < 256 → n < length r → length b - live < length f → Answers b r n i f name text b r None
  no_bytes o w x ms m h k =
      refused
      (fits_new h k
      ∙ rw (le-leb (n + 1) 256 (omega arith), le-leb (n + 1) (length r) (omega arith), lt-leb (live + length f) (length b) (omega arith)))
      h

  module _ (o : n < 256) (w : n < length r) (x : length f ≤ length b - live) where
    -- there is room for it
    pub inserts : Lent b r n f name text → Inserts b r n i f name text
    inserts p =
        let h : Holds p.stored.macros b r n = p.stored.holds in
        record { lent = p; place = l; row = w; room = omega (arith, x, live_is v h, live_fits v h) }

    pub put-in : {b' : List ℕ} {r' : List (List ℕ)}
        → ((ms : List Macro) (m : Macro) → Holds ms b r n → FormIs m f name text → Holds (insert_at i m ms) b' r' (n + 1))
        → Answers b r n i f name text b' r' (Some (n + 1))
    put-in e ms m h k =
        done
        (fits_new h k
        ∙ rw (le-leb (n + 1) 256 (omega arith), le-leb (n + 1) (length r) (omega arith), le-leb (live + length f) (length b) (omega (arith, x, live_fits v h))))
        (e ms m h k)
