-- What a hand-over without refusal 1 is known to be; what holds of each entry of its include table.
-- Assumes nothing.
use mathlib.Core.Path.{◌≡◌}
use mathlib.Core.Bool.{true, ◌&&◌}
use mathlib.Core.List.{List, [], ◌∷◌}
use Prim.Native.Nat.{ℕ, zero, suc, ◌-◌, ◌≤◌, ◌<◌}
use native.Mathlib.Omega.{arith}
use borrow.Author.Tests.{leb-true, ltb-true}
use lib.Dec.{leb, ltb}
use lib.ListN.{length, drop, get_or, length-take}
use Rattle.lex.proofs.Tests.{by_test, and_left, and_right}
use Rattle.macros.specs.Starting.{starts_fit}
use Rattle.handover.specs.Entries.{blank_entry, name_end, body_end, entry_name, entry_body, name_bytes, is_file_name, is_entry, all_entries, is_named, entry_of}
use Rattle.handover.specs.Sizes.{HandOver, Rooms, is_sound}

-- ---- an entry

pub entries_sound : (s : List ℕ) (vs : List (List ℕ)) (i : ℕ) → all_entries s vs ≡ true → i < length vs → is_entry s (get_or vs i blank_entry) ≡ true
unfolding all_entries
entries_sound s [] i h l = absurd (omega arith)
entries_sound s (v ∷ vs) zero h l = and_left (is_entry s v) (all_entries s vs) h
entries_sound s (v ∷ vs) (suc i) h l = entries_sound s vs i (and_right (is_entry s v) (all_entries s vs) h) (omega arith)

module _ (s v : List ℕ) (h : is_entry s v ≡ true) where
  ranges : (leb (name_end v) (length s) && (leb (body_end v) (length s) && (leb (get_or v 4 0) 65535 && is_file_name (entry_name s v)))) ≡ true
  unfolding is_entry
  ranges = and_right (leb (get_or v 0 0) 1) (leb (name_end v) (length s) && (leb (body_end v) (length s) && (leb (get_or v 4 0) 65535 && is_file_name (entry_name s v)))) h

  sizes : (leb (get_or v 4 0) 65535 && is_file_name (entry_name s v)) ≡ true
  sizes =
      let k = leb (get_or v 4 0) 65535 && is_file_name (entry_name s v) in
      and_right (leb (body_end v) (length s)) k (and_right (leb (name_end v) (length s)) (leb (body_end v) (length s) && k) ranges)

  -- the file
  pub entry-body : length (entry_body s v) ≤ 65535
  entry-body =
      let l : get_or v 4 0 ≤ 65535 = leb-true (get_or v 4 0) 65535 (and_left (leb (get_or v 4 0) 65535) (is_file_name (entry_name s v)) sizes) in
      omega (arith, length-take (body_end v - get_or v 3 0) (drop (get_or v 3 0) s))

  -- the file name
  pub entry-name : length (entry_name s v) ≤ 255
  unfolding is_file_name
  entry-name =
      let w = entry_name s v in
      leb-true (length w) 255
      (and_right (leb 1 (length w)) (leb (length w) 255)
      (and_left (leb 1 (length w) && leb (length w) 255) (name_bytes w) (and_right (leb (get_or v 4 0) 65535) (is_file_name w) sizes)))

-- ---- the entry of a form and name

pub entry_within : (s : List ℕ) (form : ℕ) (w : List ℕ) (vs : List (List ℕ)) → entry_of s form w vs ≤ length vs
unfolding entry_of
entry_within s form w [] = omega arith
entry_within s form w (v ∷ vs) =
    let h : entry_of s form w vs ≤ length vs = entry_within s form w vs in
    by_test (λ (n : ℕ). n ≤ suc (length vs)) (is_named s form w v) (λ e. omega arith) (λ e. omega arith)

-- ---- a hand-over without refusal 1

pub record Sound (h : HandOver) (r : Rooms) : Type 0 where
  pub some : 1 ≤ length h.table
  pub few : length h.table ≤ 64
  pub root_in : h.root < length h.table
  pub set_known : h.set ≤ 3
  pub text_small : r.text ≤ 16777215
  pub bytes_small : r.bytes ≤ 65536
  pub entries : all_entries h.store h.table ≡ true
  pub starts_fit : starts_fit r.records r.bytes h.store h.starts ≡ true

pub sound_facts : (h : HandOver) (r : Rooms) → is_sound h r ≡ true → Sound h r
unfolding is_sound
sound_facts h r e =
    let n = length h.table in
    let a = leb 1 n && leb n 64 in
    let c₄ = leb r.bytes 65536 in
    let c₃ = leb r.text 16777215 && c₄ in
    let c₂ = leb h.set 3 && c₃ in
    let c₁ = ltb h.root n && c₂ in
    let d₁ = all_entries h.store h.table in
    let d₂ = starts_fit r.records r.bytes h.store h.starts in
    let p : (a && c₁) ≡ true = and_left (a && c₁) (d₁ && d₂) e in
    let q : (d₁ && d₂) ≡ true = and_right (a && c₁) (d₁ && d₂) e in
    let pa : a ≡ true = and_left a c₁ p in
    let p₁ : c₁ ≡ true = and_right a c₁ p in
    let p₂ : c₂ ≡ true = and_right (ltb h.root n) c₂ p₁ in
    let p₃ : c₃ ≡ true = and_right (leb h.set 3) c₃ p₂ in
    record {
      some = leb-true 1 n (and_left (leb 1 n) (leb n 64) pa);
      few = leb-true n 64 (and_right (leb 1 n) (leb n 64) pa);
      root_in = ltb-true h.root n (and_left (ltb h.root n) c₂ p₁);
      set_known = leb-true h.set 3 (and_left (leb h.set 3) c₃ p₂);
      text_small = leb-true r.text 16777215 (and_left (leb r.text 16777215) c₄ p₃);
      bytes_small = leb-true r.bytes 65536 (and_right (leb r.text 16777215) c₄ p₃);
      entries = and_left d₁ d₂ q;
      starts_fit = and_right d₁ d₂ q;
    }
