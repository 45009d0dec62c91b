-- A macro defined anew: what the code reads of the old form, the room for the new one, and the answer. Assumes nothing.
use mathlib.Core.Path.{◌≡◌, refl, sym, ap, ◌∙◌, subst}
use mathlib.Core.List.{List}
use Prim.Native.Nat.{ℕ, ◌+◌, ◌-◌, ◌≤◌, ◌<◌}
use native.Mathlib.Omega.{arith}
use borrow.Author.Tests.{le-leb, lt-leb}
use lib.Dec.{leb}
use lib.ListN.{length, take, get_or, set, length-set}
use Rattle.text.specs.Bytes.{part}
use Rattle.definition.specs.Definitions.{Macro}
use Rattle.form.specs.Forms.{form_of, text_start}
use Rattle.packed.specs.Splicing.{spliced}
use Rattle.packed.specs.Records.{numbers_of, blank_record, RecordIs, moved_from}
use Rattle.packed.specs.declared.Record.{Record}
use Rattle.std.proofs.Common.{Result, Err, Option, Some, None}
use Rattle.store.specs.Stores.{macro_name, macro_text, macro_at, find, encode, fits, replace_at, define_by, define}
use Rattle.store.specs.Buffers.{Holds, FormIs, Lent, Replaces, Defines}
use Rattle.store.proofs.Entries.{form_length, form_name, bytes_fit, rows_fit}
use Rattle.store.proofs.Places.{place}
use Rattle.store.proofs.Additions.{Starts, live_is, refused, done}
use Rattle.store.proofs.Rooms.{length_replace, encode_replace_long, record_row, holds_replace}
use Rattle.store.proofs.Ordering.{find_missing_le, define_at}

-- ---- the old form

module _ {ms : List Macro} {b : List ℕ} {r : List (List ℕ)} {n : ℕ} (h : Holds ms b r n) where
  module _ {i : ℕ} (l : i < n) {q : Record} (k : RecordIs (get_or r i blank_record) q) where
    pub old_start : q.start ≡ length (encode (take i ms))
    old_start = (place h l k refl).start_is

    pub old_ordered : q.start ≤ q.text + q.size
    old_ordered = (place h l k refl).ordered

    pub old_long : q.text + q.size - q.start ≡ length (form_of (macro_at ms i))
    old_long = (place h l k refl).size_is

    module _ {live : ℕ} (e : Starts r n n live) where
      pub old_within : q.start + (q.text + q.size - q.start) ≤ live
      old_within = (place h l k (e ms b h)).within

      pub old_live : q.text + q.size - q.start ≤ live
      old_live = omega (arith, old_within)

      pub kept_fits : live - (q.text + q.size - q.start) ≤ length b
      kept_fits = omega (arith, (place h l k (e ms b h)).live_fits)

-- ---- the new form in its place

module _ {b : List ℕ} {r : List (List ℕ)} {n i : ℕ} {f : List ℕ} {x t : ℕ} (p : Replaces b r n i f x t) where
  pub form_small : length f ≤ 65536
  form_small = omega (arith, p.room, p.lent.small)

  pub row_there : i < length r
  row_there = omega (arith, p.place, rows_fit p.lent.stored.holds)

  pub rows_there : (r₁ : List (List ℕ)) (v : List ℕ) → r₁ ≡ set r i v → n ≤ length r₁
  rows_there r₁ v e = omega (arith, ap length e, length-set r i v, rows_fit p.lent.stored.holds)

  module _ {q : Record} (k : RecordIs (get_or r i blank_record) q) {live : ℕ} (e : Starts r n n live) where
    pub splice_room : (q.start + (q.text + q.size - q.start) ≤ live) × (live ≤ length b) × (live - (q.text + q.size - q.start) + length f ≤ length b)
    splice_room =
        let h : Holds p.lent.stored.macros b r n = p.lent.stored.holds in (
          old_within h p.place k e,
          omega (arith, live_is e h, bytes_fit h),
          omega (arith, live_is e h, old_long h p.place k, p.room),
        )

    pub replaced : {b' : List ℕ} {r₁ r' : List (List ℕ)} → b' ≡ spliced 0 b q.start (q.text + q.size - q.start) f live
        → r₁ ≡ set r i (numbers_of (record { start = q.start; name = x; text = q.start + t; size = length f - t }))
        → r' ≡ moved_from (length f) (q.text + q.size - q.start) (i + 1) n r₁
        → (ms : List Macro) (m : Macro) → Holds ms b r n → FormIs m f x t → Holds (replace_at i m ms) b' r' n
    replaced {b'} {r₁} {r'} eb er₁ er ms m h g =
        let a : ℕ = length (encode (take i ms)) in
        let s : q.start ≡ a = old_start h p.place k in
        let z : length f - t ≡ length (macro_text m) = omega (arith, ap length g.form_is, g.text_is, form_length m) in
        let y : q.start + t ≡ q.start + text_start m = omega (arith, g.text_is) in
        holds_replace h m f (record { start = q.start; name = x; text = q.start + t; size = length f - t }) i q.start (length f) (q.text + q.size - q.start) live
        g.form_is refl p.place s (old_long h p.place k) (live_is e h)
        (record_row q.start m q.start x (q.start + t) (length f - t) refl g.name_is y z)
        p.lent.small splice_room.2 b' r₁ r' eb er₁ er

-- ---- the answer

-- where there are few macros and records enough, the bytes decide
fits_by_bytes : (rl bl : ℕ) (new : List Macro) → length new ≤ 256 → length new ≤ rl → fits rl bl new ≡ leb (length (encode new)) bl
unfolding fits
fits_by_bytes rl bl new h k = rw (le-leb _ _ h, le-leb _ _ k)

module _ {b : List ℕ} {r : List (List ℕ)} {n i : ℕ} {f : List ℕ} {x t : ℕ} (l : i < n) (p : Lent b r n f x t) {q : Record} (k : RecordIs (get_or r i blank_record) q)
    {live : ℕ} (e : Starts r n n live) where
  pub replace_room : length f ≤ length b - (live - (q.text + q.size - q.start)) → Replaces b r n i f x t
  replace_room u =
      let h : Holds p.stored.macros b r n = p.stored.holds in
      record {
        lent = p;
        place = l;
        room = omega (arith, u, live_is e h, old_long h l k, kept_fits h l k e);
      }

  module _ (ms : List Macro) (m : Macro) (h : Holds ms b r n) (g : FormIs m f x t) where
    replace_few : fits (length r) (length b) (replace_at i m ms) ≡ leb (length (encode (replace_at i m ms))) (length b)
    replace_few =
        let s : length (replace_at i m ms) ≡ length ms = length_replace i ms (omega (arith, h.count)) m in
        fits_by_bytes (length r) (length b) (replace_at i m ms) (omega (arith, s, h.count, p.few)) (omega (arith, s, h.count, rows_fit h))

    replace_long : length (encode (replace_at i m ms)) ≡ live - (q.text + q.size - q.start) + length f
    replace_long =
        encode_replace_long i ms (omega (arith, h.count)) m
        ∙ omega (arith, live_is e h, old_long h l k, ap length g.form_is)

    pub redefine_refused : length b - (live - (q.text + q.size - q.start)) < length f → Defines (length r) (length b) (replace_at i m ms) ms b r None
    redefine_refused u =
        refused (replace_few ∙ lt-leb (length (encode (replace_at i m ms))) (length b) (omega (arith, u, replace_long, kept_fits h l k e))) h

    pub redefine_done : {b' : List ℕ} {r' : List (List ℕ)} → length f ≤ length b - (live - (q.text + q.size - q.start))
        → Holds (replace_at i m ms) b' r' n → Defines (length r) (length b) (replace_at i m ms) ms b' r' (Some n)
    redefine_done u h' =
        done (replace_few ∙ le-leb (length (encode (replace_at i m ms))) (length b) (omega (arith, u, replace_long, kept_fits h l k e))) h'

-- ---- by name

module _ {ms : List Macro} {b : List ℕ} {r : List (List ℕ)} {n : ℕ} (h : Holds ms b r n) (w : List ℕ) {o : Result ℕ ℕ} (e : o ≡ find w ms) {i : ℕ} where
  pub missing_place : o ≡ Err i → i ≤ n
  missing_place q = omega (arith, find_missing_le w ms (sym e ∙ q), h.count)

-- the definition by the place found for the front of its form
pub define_found : {m : Macro} {ms : List Macro} {f w : List ℕ} {x t : ℕ} {o : Result ℕ ℕ} → FormIs m f x t → w ≡ part f 0 x → o ≡ find w ms → (s : Result ℕ ℕ) → o ≡ s
    → {rl bl : ℕ} {b : List ℕ} {r : List (List ℕ)} {a : Option ℕ} → Defines rl bl (define_by s m ms) ms b r a → Defines rl bl (define m ms) ms b r a
define_found {m} {ms} {f} {w} {x} g ew eo s es {rl} {bl} {b} {r} {a} d =
    let z : part f 0 x ≡ take x f = let y : x - 0 ≡ x = omega arith in rw y in
    let v : w ≡ macro_name m = ew ∙ z ∙ ap (take x) g.form_is ∙ ap (λ (j : ℕ). take j (form_of m)) g.name_is ∙ form_name m in
    subst (λ (new : List Macro). Defines rl bl new ms b r a) (sym (define_at m ms s (sym (eo ∙ ap (λ (l : List ℕ). find l ms) v) ∙ es))) d
