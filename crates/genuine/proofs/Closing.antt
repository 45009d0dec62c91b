-- A string of a text that closes and holds no newline: in the spelling it is the same, and it is stored as it stands.
-- Assumes nothing.
use Prim.Native.Nat.{ℕ, zero, suc, ◌+◌, ◌<◌, ◌≤◌}
use mathlib.Core.Bool.{Bool, true, false, cond, not, ◌&&◌, ◌||◌}
use mathlib.Core.List.{List, [], ◌∷◌, ◌++◌}
use mathlib.Core.Path.{◌≡◌, refl, sym, ap, ◌∙◌}
use native.Mathlib.Nat.{le_refl}
use native.Mathlib.Omega.{arith}
use lib.Dec.{eqb, leb}
use lib.ListN.{length, get_or, drop}
use borrow.Author.Tests.{eqb-true, leb-true, leb-false}
use Rattle.text.specs.Bytes.{holds, part}
use Rattle.text.proofs.Matching.{part_more, part_none}
use Rattle.lex.specs.Classes.{is_legal}
use Rattle.lex.specs.Scans.{scan, string_from, string_end}
use Rattle.lex.specs.declared.Scan.{Scan}
use Rattle.lex.proofs.Tests.{by_test}
use Rattle.lex.proofs.Scanning.{string_jump, string_step, string_out}
use Rattle.storing.specs.Stored.{given, joined_from}
use Rattle.storing.proofs.Joining.{joined_more}
use Rattle.genuine.proofs.Tests.{or_left, or_right}
use Rattle.genuine.proofs.Parts.{holds_parted}
use Rattle.genuine.proofs.Aligning.{Aligned, Along, along_one, along_join, byte_alike, byte_within}

-- a `\` before it that is not given out yet
abbrev due : Bool → List ℕ → List ℕ
due true r = 92 ∷ r
due false r = r

-- it closes, holds no newline, and is stored as it stands
pub record Closed (s w tail : List ℕ) (esc : Bool) (i j : ℕ) (r q : Scan) : Type 0 where
  pub along : Along s w tail i j r.end q.end
  pub free : q.bar ≡ 0
  pub whole : joined_from esc (part s j q.end) ≡ due esc (part s j q.end)

string_past : (esc ok : Bool) (i : ℕ) (xs : List ℕ) → i ≤ (string_from esc ok i xs).end
unfolding string_from
string_past true ok i [] = le_refl i
string_past false ok i [] = le_refl i
string_past true ok i (x ∷ xs) = omega (arith, string_past false (ok && is_legal x) (suc i) xs)
string_past false ok i (x ∷ xs) =
    by_test (λ (r : Scan). i ≤ r.end) (eqb x 34) (λ e. omega arith)
    (λ e. by_test (λ (r : Scan). i ≤ r.end) (eqb x 10) (λ d. le_refl i)
    (λ d. omega (arith, string_past (eqb x 92) (ok && is_legal x) (suc i) xs)))

barred : {A : Type 0} (ok : Bool) → ◌≡◌ {A = ℕ} (cond ok 3 2) 0 → A
barred true e = absurd (omega arith)
barred false e = absurd (omega arith)

-- a byte of it
module _ (x : ℕ) (r : List ℕ) (n : eqb x 10 ≡ false) where
  kept : (d : Bool) → eqb x 92 ≡ d → joined_from d r ≡ due d r → cond d [] (x ∷ []) ++ joined_from d r ≡ x ∷ r
  kept true e h = h ∙ ap (λ (b : ℕ). b ∷ r) (sym (eqb-true x 92 e))
  kept false e h = ap (λ (y : List ℕ). x ∷ y) h

  given_whole : (esc : Bool) → joined_from (not esc && eqb x 92) r ≡ due (not esc && eqb x 92) r
      → given esc x ++ joined_from (not esc && eqb x 92) r ≡ due esc (x ∷ r)
  given_whole true h = rw n (ap (λ (y : List ℕ). 92 ∷ x ∷ y) h)
  given_whole false h = kept (eqb x 92) refl h

module _ {s w tail : List ℕ} where
  closed_join : {i j : ℕ} {r q : Scan} (esc d : Bool) → Along s w tail i j (i + 1) (j + 1) → j < length s → eqb (get_or s j 0) 10 ≡ false
      → d ≡ not esc && eqb (get_or s j 0) 92 → Closed s w tail d (i + 1) (j + 1) r q → Closed s w tail esc i j r q
  closed_join {i} {j} {r} {q} esc d o l n e c =
      let h : j < q.end = omega (arith, c.along.even, c.along.past) in
      record {
        along = along_join o c.along;
        free = c.free;
        whole = joined_more s j q.end esc h l ∙ (given_whole (get_or s j 0) (part s (j + 1) q.end) n esc (rw e at c.whole) ∙ ap (due esc) (sym (part_more s j q.end h l)));
      }

  module _ (ok : Bool) (i j : ℕ) (a : Aligned s w tail i j) (l : i < length w) where
    abbrev Whole : Bool → Type 0
    Whole esc =
        (string_from esc ok i (drop i w)).bar ≡ 0 → holds 10 (part w i (string_from esc ok i (drop i w)).end) ≡ false
        → Closed s w tail esc i j (string_from esc ok i (drop i w)) (string_from esc ok j (drop j s))

    -- what is known of the rest
    abbrev Rest : Bool → Type 0
    Rest d =
        Aligned s w tail (i + 1) (j + 1) → (string_from d (ok && is_legal (get_or w i 0)) (i + 1) (drop (i + 1) w)).bar ≡ 0
        → holds 10 (part w (i + 1) (string_from d (ok && is_legal (get_or w i 0)) (i + 1) (drop (i + 1) w)).end) ≡ false
        → Closed s w tail d (i + 1) (j + 1) (string_from d (ok && is_legal (get_or w i 0)) (i + 1) (drop (i + 1) w)) (string_from d (ok && is_legal (get_or w i 0)) (j + 1) (drop (j + 1) s))

    string_escaped : Rest false → Whole true
    string_escaped f z h =
        let o = ok && is_legal (get_or w i 0) in
        let p : string_from true ok i (drop i w) ≡ string_from false o (i + 1) (drop (i + 1) w) = string_jump ok w i l in
        let e = (string_from false o (i + 1) (drop (i + 1) w)).end in
        let k : holds 10 (part w i e) ≡ false = ap (λ (r : Scan). holds 10 (part w i r.end)) (sym p) ∙ h in
        let g : (eqb (get_or w i 0) 10 || holds 10 (part w (i + 1) e)) ≡ false = holds_parted w i e l (string_past false o (i + 1) (drop (i + 1) w)) k in
        let n : eqb (get_or w i 0) 10 ≡ false = or_left (eqb (get_or w i 0) 10) (holds 10 (part w (i + 1) e)) g in
        let c : get_or s j 0 ≡ get_or w i 0 = byte_alike a l n in
        rw (p, string_jump ok s j (byte_within a l n), c)
        (closed_join true false (along_one a l n) (byte_within a l n) (rw c n) refl
        (f (along_one a l n).aligned (ap (λ (r : Scan). r.bar) (sym p) ∙ z) (or_right (eqb (get_or w i 0) 10) (holds 10 (part w (i + 1) e)) g)))

    -- at its end
    string_closed : get_or w i 0 ≡ 34 → Whole false
    unfolding joined_from
    string_closed x z h =
        let n : eqb (get_or w i 0) 10 ≡ false = rw x in
        let c : get_or s j 0 ≡ 34 = byte_alike a l n ∙ x in
        let g : j < length s = byte_within a l n in
        let p : string_from false ok i (drop i w) ≡ scan (i + 1) ok 0 = string_step ok w i l ∙ rw x in
        let q : part s j (j + 1) ≡ get_or s j 0 ∷ [] = part_more s j (j + 1) (omega arith) g ∙ ap (λ (r : List ℕ). get_or s j 0 ∷ r) (part_none s (j + 1) (j + 1) (omega arith)) in
        let m : string_from false ok j (drop j s) ≡ scan (j + 1) ok 0 = string_step ok s j g ∙ rw c in
        rw (p, m)
        (record { along = along_one a l n; free = ap (λ (r : Scan). r.bar) (sym p) ∙ z; whole = rw (q, c) })

    module _ (x : eqb (get_or w i 0) 34 ≡ false) where
      string_newline : eqb (get_or w i 0) 10 ≡ true → Whole false
      string_newline n z h =
          let p : string_from false ok i (drop i w) ≡ scan i ok 3 = string_step ok w i l ∙ rw (x, n) in
          barred ok (ap (λ (r : Scan). r.bar) (sym p) ∙ z)

      string_more : eqb (get_or w i 0) 10 ≡ false → Rest (eqb (get_or w i 0) 92) → Whole false
      string_more n f z h =
          let o = ok && is_legal (get_or w i 0) in
          let d = eqb (get_or w i 0) 92 in
          let c : get_or s j 0 ≡ get_or w i 0 = byte_alike a l n in
          let g : j < length s = byte_within a l n in
          let p : string_from false ok i (drop i w) ≡ string_from d o (i + 1) (drop (i + 1) w) = string_step ok w i l ∙ rw (x, n) in
          let q : string_from false ok j (drop j s) ≡ string_from d o (j + 1) (drop (j + 1) s) = string_step ok s j g ∙ rw (c, x, n) in
          let e = (string_from d o (i + 1) (drop (i + 1) w)).end in
          let k : holds 10 (part w i e) ≡ false = ap (λ (r : Scan). holds 10 (part w i r.end)) (sym p) ∙ h in
          let m : (eqb (get_or w i 0) 10 || holds 10 (part w (i + 1) e)) ≡ false = holds_parted w i e l (string_past d o (i + 1) (drop (i + 1) w)) k in
          rw (p, q)
          (closed_join false d (along_one a l n) g (rw c n) (rw c)
          (f (along_one a l n).aligned (ap (λ (r : Scan). r.bar) (sym p) ∙ z) (or_right (eqb (get_or w i 0) 10) (holds 10 (part w (i + 1) e)) m)))

    string_turn : (b c : Bool) → eqb (get_or w i 0) 34 ≡ b → eqb (get_or w i 0) 10 ≡ c → Rest (eqb (get_or w i 0) 92) → Whole false
    string_turn true c p q f = string_closed (eqb-true (get_or w i 0) 34 p)
    string_turn false true p q f = string_newline p q
    string_turn false false p q f = string_more p q f

  string_over : (esc ok : Bool) (i j : ℕ) → length w ≤ i → (string_from esc ok i (drop i w)).bar ≡ 0
      → Closed s w tail esc i j (string_from esc ok i (drop i w)) (string_from esc ok j (drop j s))
  string_over esc ok i j h z = barred ok (ap (λ (r : Scan). r.bar) (sym (string_out esc ok w i h)) ∙ z)

  string_walk : (n : ℕ) (esc ok : Bool) (i j : ℕ) → length w ≤ n + i → Aligned s w tail i j
      → (string_from esc ok i (drop i w)).bar ≡ 0 → holds 10 (part w i (string_from esc ok i (drop i w)).end) ≡ false
      → Closed s w tail esc i j (string_from esc ok i (drop i w)) (string_from esc ok j (drop j s))
  string_walk zero esc ok i j h a z q = string_over esc ok i j (omega arith) z
  string_walk (suc n) esc ok i j h a z q = go (leb (length w) i) refl esc z q (λ d o b. string_walk n d o (i + 1) (j + 1) (omega arith) b)
    where
      go : (b : Bool) → leb (length w) i ≡ b → (esc : Bool)
          → (string_from esc ok i (drop i w)).bar ≡ 0 → holds 10 (part w i (string_from esc ok i (drop i w)).end) ≡ false
          → ((d o : Bool) → Aligned s w tail (i + 1) (j + 1) → (string_from d o (i + 1) (drop (i + 1) w)).bar ≡ 0
          → holds 10 (part w (i + 1) (string_from d o (i + 1) (drop (i + 1) w)).end) ≡ false
          → Closed s w tail d (i + 1) (j + 1) (string_from d o (i + 1) (drop (i + 1) w)) (string_from d o (j + 1) (drop (j + 1) s)))
          → Closed s w tail esc i j (string_from esc ok i (drop i w)) (string_from esc ok j (drop j s))
      go true e esc z q f = string_over esc ok i j (leb-true (length w) i e) z
      go false e true z q f =
          string_escaped ok i j a (leb-false (length w) i e) (f false (ok && is_legal (get_or w i 0))) z q
      go false e false z q f =
          string_turn ok i j a (leb-false (length w) i e) (eqb (get_or w i 0) 34) (eqb (get_or w i 0) 10) refl refl (f (eqb (get_or w i 0) 92) (ok && is_legal (get_or w i 0))) z q

  pub string_along : {i j : ℕ} → Aligned s w tail i j → (string_end w i).bar ≡ 0 → holds 10 (part w i (string_end w i).end) ≡ false
      → Closed s w tail false i j (string_end w i) (string_end s j)
  unfolding string_end
  string_along {i} {j} a z q = string_walk (length w) false true i j (omega arith) a z q
