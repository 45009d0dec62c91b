-- The hand-over as the code tests it: a file name, an entry, the include table from entry i on, the sizes.
-- Assumes nothing.
use mathlib.Core.Path.{◌≡◌, refl, sym, ap, ◌∙◌}
use mathlib.Core.Bool.{Bool, true, false, not, ◌&&◌, ◌||◌}
use mathlib.Core.List.{List, [], ◌∷◌}
use Prim.Native.Nat.{ℕ, zero, suc, ◌≤◌, ◌<◌}
use native.Mathlib.Omega.{arith}
use borrow.Author.Tests.{leb-true, leb-false, ltb-true, ltb-false, lt-ltb, le-ltb, lt-leb, le-leb, eq-eqb, ne_eqb, not-true, not-false}
use lib.Dec.{leb, ltb}
use lib.ListN.{length, get_or}
use Rattle.std.specs.List.{list_all, AllWithin, HoldsAt}
use Rattle.std.specs.Option.{MatchOption, unwrap_or}
use Rattle.std.proofs.Common.{Option}
use Rattle.std.proofs.lemmas.Iterator.{index_from_first}
use Rattle.std.proofs.lemmas.List.Recursion.{same_from_clauses}
use Rattle.text.specs.Bytes.{same}
use Rattle.macros.specs.Starting.{starts_fit}
use Rattle.handover.specs.Entries.{name_end, body_end, entry_name, is_name_byte, name_bytes, is_file_name, is_entry, all_entries, is_named, entry_of}
use Rattle.handover.specs.Sizes.{HandOver, Rooms, is_sound}

-- ---- tests

over : (a b : ℕ) → ltb b a ≡ not (leb a b)
over a b = go (leb a b) refl
  where
    go : (t : Bool) → leb a b ≡ t → ltb b a ≡ not t
    go true e = le-ltb b a (leb-true a b e)
    go false e = lt-ltb b a (leb-false a b e)

under : (a b : ℕ) → leb a b ≡ not (ltb b a)
under a b = go (ltb b a) refl
  where
    go : (t : Bool) → ltb b a ≡ t → leb a b ≡ not t
    go true e = lt-leb a b (ltb-true b a e)
    go false e = le-leb a b (ltb-false b a e)

or_not : {x y : Bool} (p q : Bool) → x ≡ not p → y ≡ not q → (x || y) ≡ not (p && q)
or_not true q e f = rw (e, f)
or_not false q e f = rw e

-- t: whether p fails
refused : {t : Bool} (p : Bool) → t ≡ not p → t ≡ true → p ≡ false
refused p e h = not-true p (sym e ∙ h)

passed : {t : Bool} (p : Bool) → t ≡ not p → t ≡ false → p ≡ true
passed p e h = not-false p (sym e ∙ h)

-- ---- a read

-- the default of a read inside a list
pub read_any : {A : Type 0} (l : List A) (i : ℕ) (d e : A) → i < length l → get_or l i d ≡ get_or l i e
read_any [] i d e h = absurd (omega arith)
read_any (x ∷ l) zero d e h = refl
read_any (x ∷ l) (suc i) d e h = read_any l i d e (omega arith)

-- ---- a file name

module _ (w : List ℕ) where
  sized : (ltb (length w) 1 || ltb 255 (length w)) ≡ not (leb 1 (length w) && leb (length w) 255)
  sized = or_not (leb 1 (length w)) (leb (length w) 255) (over 1 (length w)) (over (length w) 255)

  pub name_unsized : (ltb (length w) 1 || ltb 255 (length w)) ≡ true → false ≡ is_file_name w
  unfolding is_file_name
  name_unsized h = sym (ap (λ (x : Bool). x && name_bytes w) (refused (leb 1 (length w) && leb (length w) 255) sized h))

  pub name_sized : (ltb (length w) 1 || ltb 255 (length w)) ≡ false → name_bytes w ≡ is_file_name w
  unfolding is_file_name
  name_sized h = sym (ap (λ (x : Bool). x && name_bytes w) (passed (leb 1 (length w) && leb (length w) 255) sized h))

pub bytes_all : (w : List ℕ) → list_all is_name_byte w ≡ name_bytes w
unfolding name_bytes
bytes_all = same_from_clauses (list_all is_name_byte) name_bytes (λ b r. is_name_byte b && r) refl (λ b w. refl) (λ b w. refl)

-- ---- an entry

module _ (s v : List ℕ) where
  pub entry_form : 1 < get_or v 0 0 → false ≡ is_entry s v
  unfolding is_entry
  entry_form h = rw (lt-leb (get_or v 0 0) 1 h)

  module _ (h₀ : get_or v 0 0 ≤ 1) where
    pub entry_name_out : length s < name_end v → false ≡ is_entry s v
    unfolding is_entry
    entry_name_out l = rw (le-leb (get_or v 0 0) 1 h₀, lt-leb (name_end v) (length s) l)

    module _ (h₁ : name_end v ≤ length s) where
      pub entry_body_out : length s < body_end v → false ≡ is_entry s v
      unfolding is_entry
      entry_body_out l = rw (le-leb (get_or v 0 0) 1 h₀, le-leb (name_end v) (length s) h₁, lt-leb (body_end v) (length s) l)

      module _ (h₂ : body_end v ≤ length s) where
        pub entry_body_long : 65535 < get_or v 4 0 → false ≡ is_entry s v
        unfolding is_entry
        entry_body_long l =
            rw (le-leb (get_or v 0 0) 1 h₀, le-leb (name_end v) (length s) h₁, le-leb (body_end v) (length s) h₂, lt-leb (get_or v 4 0) 65535 l)

        pub entry_by_name : get_or v 4 0 ≤ 65535 → {w : List ℕ} → w ≡ entry_name s v → {x : Bool} → x ≡ is_file_name w → x ≡ is_entry s v
        unfolding is_entry
        entry_by_name l e f =
            f ∙ ap is_file_name e
            ∙ rw (le-leb (get_or v 0 0) 1 h₀, le-leb (name_end v) (length s) h₁, le-leb (body_end v) (length s) h₂, le-leb (get_or v 4 0) 65535 l)

-- ---- whether an entry has a form and name

module _ (s : List ℕ) (form : ℕ) (w v : List ℕ) where
  pub other_form : (get_or v 0 0 ≡ form → ⊥) → false ≡ is_named s form w v
  other_form n = rw (ne_eqb (get_or v 0 0) form n)

  pub same_form : get_or v 0 0 ≡ form → {x : List ℕ} → x ≡ entry_name s v → {b : Bool} → b ≡ same w x → b ≡ is_named s form w v
  same_form z p q = q ∙ ap (same w) p ∙ rw (eq-eqb (get_or v 0 0) form z)

-- ---- the entries

pub entries_all : (s : List ℕ) (vs : List (List ℕ)) → list_all (is_entry s) vs ≡ all_entries s vs
unfolding all_entries
entries_all s = same_from_clauses (list_all (is_entry s)) (all_entries s) (λ v r. is_entry s v && r) refl (λ v vs. refl) (λ v vs. refl)

-- the first entry of a form and name, if there is one
module _ (s : List ℕ) (form : ℕ) (w : List ℕ) where
  abbrev pub Named : List ℕ → Type 0
  Named v = is_named s form w v ≡ true

  abbrev pub Unnamed : List ℕ → Type 0
  Unnamed v = is_named s form w v ≡ false

  pub entry_first : (vs : List (List ℕ)) (r : Option ℕ)
      → MatchOption r (AllWithin Unnamed vs 0 (length vs)) (λ i. (i < length vs) × HoldsAt Named vs i × AllWithin Unnamed vs 0 i) → entry_of s form w vs ≡ unwrap_or r (length vs)
  unfolding entry_of
  entry_first = index_from_first (entry_of s form w) Named Unnamed refl (λ v vs e. rw e) (λ v vs e. rw e (omega arith))

-- ---- refusal 1

module _ (h : HandOver) (r : Rooms) where
  abbrev files : Bool
  files = leb 1 (length h.table) && leb (length h.table) 64

  abbrev rooms : Bool
  rooms = ltb h.root (length h.table) && (leb h.set 3 && (leb r.text 16777215 && leb r.bytes 65536))

  abbrev rest : Bool
  rest = all_entries h.store h.table && starts_fit r.records r.bytes h.store h.starts

  abbrev pub ill_filled : Bool
  ill_filled = ltb (length h.table) 1 || ltb 64 (length h.table)

  abbrev pub ill_sized : Bool
  ill_sized = leb (length h.table) h.root || (ltb 3 h.set || (ltb 16777215 r.text || ltb 65536 r.bytes))

  filled : ill_filled ≡ not files
  filled = or_not (leb 1 (length h.table)) (leb (length h.table) 64) (over 1 (length h.table)) (over (length h.table) 64)

  roomy : ill_sized ≡ not rooms
  roomy =
      or_not (ltb h.root (length h.table)) (leb h.set 3 && (leb r.text 16777215 && leb r.bytes 65536))
      (under (length h.table) h.root)
      (or_not (leb h.set 3) (leb r.text 16777215 && leb r.bytes 65536)
      (over h.set 3)
      (or_not (leb r.text 16777215) (leb r.bytes 65536) (over r.text 16777215) (over r.bytes 65536)))

  pub sound_unfilled : ill_filled ≡ true → false ≡ is_sound h r
  unfolding is_sound
  sound_unfilled a = sym (ap (λ (x : Bool). (x && rooms) && rest) (refused files filled a))

  module _ (a : ill_filled ≡ false) where
    sound_by : is_sound h r ≡ (rooms && rest)
    unfolding is_sound
    sound_by = ap (λ (x : Bool). (x && rooms) && rest) (passed files filled a)

    pub sound_unsized : ill_sized ≡ true → false ≡ is_sound h r
    sound_unsized b = sym (sound_by ∙ ap (λ (x : Bool). x && rest) (refused rooms roomy b))

    module _ (b : ill_sized ≡ false) {t : Bool} (e : t ≡ all_entries h.store h.table) where
      rest_by : (x : Bool) → t ≡ x → is_sound h r ≡ (x && starts_fit r.records r.bytes h.store h.starts)
      rest_by x d =
          sound_by
          ∙ ap (λ (y : Bool). y && rest) (passed rooms roomy b)
          ∙ ap (λ (y : Bool). y && starts_fit r.records r.bytes h.store h.starts) (sym e ∙ d)

      pub sound_unlisted : not t ≡ true → false ≡ is_sound h r
      sound_unlisted d = sym (rest_by false (not-true t d))

      pub sound_started : not t ≡ false → {u : Bool} → u ≡ starts_fit r.records r.bytes h.store h.starts → u ≡ is_sound h r
      sound_started d f = f ∙ sym (rest_by true (not-false t d))
