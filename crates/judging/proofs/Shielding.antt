-- The grave accents, brackets and commas of a default, told by its bytes alone, and what each token does there.
-- Assumes nothing.
use Prim.Native.Nat.{ℕ, suc, ◌+◌, ◌-◌, ◌<◌, ◌≤◌}
use mathlib.Core.Bool.{Bool, true, false, cond, ◌&&◌, ◌||◌}
use mathlib.Core.List.{List, [], ◌∷◌, ◌++◌}
use mathlib.Core.Path.{◌≡◌, refl, sym, ap, subst, ◌∙◌}
use native.Mathlib.Nat.{le_refl}
use native.Mathlib.Omega.{arith}
use lib.Dec.{eqb}
use lib.ListN.{length, get_or, take, drop, drop_of_length-le, take-append-drop}
use lib.Seq.{take-nil, drop-drop, drop-cons}
use borrow.Author.Tests.{eqb-true, lt-leb}
use Rattle.text.specs.Bytes.{holds, part}
use Rattle.text.proofs.Matching.{part_more, part_none}
use Rattle.lex.specs.Classes.{is_white, is_space, is_digit, is_start, is_run, is_sign, is_base}
use Rattle.lex.specs.Scans.{run_from, run_end, span_end}
use Rattle.lex.specs.Tokens.{LineComment, BlockComment, String, Escaped, Based, Byte, White, Newline, Continuation, is, plain, escaped_or, slash_token, backslash_token, digits_token, based_token, escaped_grave, grave_token, sign_token, token_at}
use Rattle.lex.specs.declared.Mode.{Mode}
use Rattle.lex.specs.declared.Token.{Token}
use Rattle.lex.proofs.Tests.{by_test, true_false, and_left, read_within}
use Rattle.lex.proofs.Progress.{token_ends}
use Rattle.brackets.specs.Steps.{on, step_of}
use Rattle.afresh.specs.Unfit.{held_by, is_open, unless}
use Rattle.afresh.proofs.Sorts.{or_false, apart}
use Rattle.afresh.proofs.Wording.{run_past}
use Rattle.judging.proofs.Shapes.{Closed, close, pair, byte, Solid, Spaced, none, some, span_solid}
use Rattle.judging.proofs.Scanning.{run_after, Stop, out, space, turn, Spans, spans}

-- where a byte stands: outside strings and escaped names, in a string, past a `\` there, in an escaped name
pub data Shield : Type 0 where
  bare : Shield
  quoted : Shield
  escaped : Shield
  spelled : Shield

-- bytes with a grave accent outside strings, an unshielded `,` or `)`, or unmatched brackets; ks: closing brackets due
unfoldable pub skim : Shield → List ℕ → List ℕ → Bool
skim h ks [] = is_open ks
skim bare ks (x ∷ xs) =
    cond (eqb x 34) (skim quoted ks xs)
    (cond (eqb x 92) (skim spelled ks xs)
    (cond (eqb x 96) true
    (unless (step_of x ks) (λ js. skim bare js xs))))
skim quoted ks (x ∷ xs) = cond (eqb x 34) (skim bare ks xs) (skim (cond (eqb x 92) escaped quoted) ks xs)
skim escaped ks (x ∷ xs) = skim quoted ks xs
skim spelled ks (x ∷ xs) = cond (is_space x) (skim bare ks xs) (cond (eqb x 96) true (skim spelled ks xs))

-- ---- bytes that do nothing there

abbrev any_of : (ℕ → Bool) → List ℕ → Bool
any_of p [] = false
any_of p (c ∷ cs) = p c || any_of p cs

-- `"`, `\`, grave accent, comma and brackets
abbrev keens : List ℕ
keens = 34 ∷ 92 ∷ 96 ∷ 44 ∷ 41 ∷ 93 ∷ 125 ∷ 40 ∷ 91 ∷ 123 ∷ []

abbrev pub is_keen : ℕ → Bool
is_keen x = any_of (eqb x) keens

pub both_false : (a b : Bool) → (a || b) ≡ false → (a ≡ false) × (b ≡ false)
both_false true b e = true_false true refl e
both_false false b e = (refl, e)

apart_all : (p : ℕ → Bool) (x : ℕ) → p x ≡ true → (cs : List ℕ) → any_of p cs ≡ false → any_of (eqb x) cs ≡ false
apart_all p x h [] e = refl
apart_all p x h (c ∷ cs) e =
    let q = both_false (p c) (any_of p cs) e in
    rw (apart p x c h q.0) (apart_all p x h cs q.1)

-- a byte that passes a test which none of those does
pub calm : (p : ℕ → Bool) → any_of p keens ≡ false → (x : ℕ) → p x ≡ true → is_keen x ≡ false
calm p e x h = apart_all p x h keens e

record Calm (x : ℕ) : Type 0 where
  string : eqb x 34 ≡ false
  slash : eqb x 92 ≡ false
  grave : eqb x 96 ≡ false
  step : (ks : List ℕ) → step_of x ks ≡ on ks

calm_byte : (x : ℕ) → is_keen x ≡ false → Calm x
unfolding step_of
calm_byte x e =
    let a = both_false (eqb x 34) (any_of (eqb x) (drop 1 keens)) e in
    let b = both_false (eqb x 92) (any_of (eqb x) (drop 2 keens)) a.1 in
    let c = both_false (eqb x 96) (any_of (eqb x) (drop 3 keens)) b.1 in
    let d = both_false (eqb x 44) (any_of (eqb x) (drop 4 keens)) c.1 in
    let f = both_false (eqb x 41) (any_of (eqb x) (drop 5 keens)) d.1 in
    let g = both_false (eqb x 93) (any_of (eqb x) (drop 6 keens)) f.1 in
    let h = both_false (eqb x 125) (any_of (eqb x) (drop 7 keens)) g.1 in
    let i = both_false (eqb x 40) (any_of (eqb x) (drop 8 keens)) h.1 in
    let j = both_false (eqb x 91) (any_of (eqb x) (drop 9 keens)) i.1 in
    let k = both_false (eqb x 123) false j.1 in
    record {
      string = a.0;
      slash = b.0;
      grave = c.0;
      step = λ ks. rw (d.0, f.0, g.0, h.0, i.0, j.0, k.0);
    }

pub calm_skim : (x : ℕ) → is_keen x ≡ false → (ks xs : List ℕ) → skim bare ks (x ∷ xs) ≡ skim bare ks xs
unfolding skim
calm_skim x e ks xs = let c : Calm x = calm_byte x e in rw (c.string, c.slash, c.grave, c.step ks)

-- such bytes
record Idle (p : List ℕ) : Type 0 where
  skims : (ks r : List ℕ) → skim bare ks (p ++ r) ≡ skim bare ks r
  clean : holds 96 p ≡ false

idle_none : Idle []
unfolding holds
idle_none = record { skims = λ ks r. refl; clean = refl }

idle_more : (x : ℕ) (p : List ℕ) → is_keen x ≡ false → Idle p → Idle (x ∷ p)
unfolding holds
idle_more x p e h =
    record { skims = λ ks r. calm_skim x e ks (p ++ r) ∙ h.skims ks r; clean = rw (calm_byte x e).grave h.clean }

run-from : (more : ℕ) → any_of (is_run more) keens ≡ false → (k : ℕ) (xs : List ℕ) → Idle (take (run_from more k xs - k) xs)
unfolding run_from
run-from more h k [] = rw (take-nil (k - k)) idle_none
run-from more h k (x ∷ xs) =
    by_test (λ (e : ℕ). Idle (take (e - k) (x ∷ xs))) (is_run more x)
    (λ e. let p : suc k ≤ run_from more (suc k) xs = run_past more (suc k) xs in
    let q : run_from more (suc k) xs - k ≡ suc (run_from more (suc k) xs - suc k) = omega arith in
    rw q (idle_more x (take (run_from more (suc k) xs - suc k) xs) (calm (is_run more) h x e) (run-from more h (suc k) xs)))
    (λ e. let q : k - k ≡ 0 = omega arith in rw q idle_none)

-- a run
run_idle : (more : ℕ) → any_of (is_run more) keens ≡ false → (s : List ℕ) (k : ℕ) → Idle (part s k (run_end more s k))
unfolding run_end
run_idle more h s k = run-from more h k (drop k s)

-- a byte before others
part_idle : (p : ℕ → Bool) → p 0 ≡ false → any_of p keens ≡ false → (s : List ℕ) (k e : ℕ) → k < e → p (get_or s k 0) ≡ true → Idle (part s (k + 1) e) → Idle (part s k e)
part_idle p z h s k e g t m =
    rw (part_more s k e g (read_within p z s k t)) (idle_more (get_or s k 0) (part s (k + 1) e) (calm p h (get_or s k 0) t) m)

-- ---- strings and escaped names

pub closed_skim : (u : List ℕ) → Closed u → (ks r : List ℕ) → skim quoted ks (u ++ r) ≡ skim bare ks r
unfolding skim
closed_skim u close ks r = refl
closed_skim u (pair {u = v} e c) ks r = closed_skim v c ks r
closed_skim u (byte {u = v} e f g c) ks r = rw (e, g) (closed_skim v c ks r)

solid_skim : (n : List ℕ) → Solid n → (ks r : List ℕ) → skim spelled ks (n ++ r) ≡ cond (holds 96 n) true (skim spelled ks r)
unfolding skim holds
solid_skim n none ks r = refl
solid_skim n (some {x = x} {n = m} e s) ks r = rw (span_solid x e) (go (eqb x 96) (holds 96 m) (skim spelled ks (m ++ r)) (skim spelled ks r) (solid_skim m s ks r))
  where
    go : (a c p q : Bool) → p ≡ cond c true q → cond a true p ≡ cond (a || c) true q
    go true c p q h = refl
    go false c p q h = h

-- what is no name goes on alike in a name and outside
pub space_calm : (x : ℕ) → is_space x ≡ true → is_keen x ≡ false
space_calm = calm is_space refl

pub spaced_skim : (r : List ℕ) → Spaced r → (ks : List ℕ) → skim spelled ks r ≡ skim bare ks r
unfolding skim
spaced_skim r none ks = refl
spaced_skim r (some {x = x} {p = p} e) ks = rw e (sym (calm_skim x (space_calm x e) ks p))

-- a part, and the text past it
pub part_drop : (w : List ℕ) (i e : ℕ) → i ≤ e → part w i e ++ drop e w ≡ drop i w
part_drop w i e h =
    let q : i + (e - i) ≡ e = omega arith in
    ap (λ (r : List ℕ). part w i e ++ r) (ap (λ (n : ℕ). drop n w) (sym q) ∙ sym (drop-drop (e - i) i w)) ∙ take-append-drop (e - i) (drop i w)

pub stop_skim : (w : List ℕ) (e : ℕ) → Stop w e → (ks : List ℕ) → skim spelled ks (drop e w) ≡ skim bare ks (drop e w)
unfolding skim
stop_skim w e (out h) ks = rw (drop_of_length-le w h)
stop_skim w e (space h) ks =
    rw (drop-cons w e 0 (read_within is_space refl w e h)) (spaced_skim (get_or w e 0 ∷ drop (suc e) w) (some h) ks)
stop_skim w e (turn p q) ks =
    let l : e < length w = read_within (λ y. eqb y 92) refl w e (rw p) in
    let k : e + 1 < length w = read_within (λ y. eqb y 10) refl w (e + 1) (rw q) in
    let z : suc e ≡ e + 1 = omega arith in
    let a : drop (suc e) w ≡ get_or w (e + 1) 0 ∷ drop (suc (e + 1)) w = ap (λ (n : ℕ). drop n w) z ∙ drop-cons w (e + 1) 0 k in
    rw (drop-cons w e 0 l, a, p, q)

-- ---- one token, between no quote marks

module _ (m : Mode) (s : List ℕ) (i : ℕ) (l : i < length s) where
  -- its bytes are not kept, or are no token of a default
  abbrev pub is_aside : Token → Bool
  is_aside t = is LineComment t || (is BlockComment t || (m.define && is Continuation t))

  -- what a token that is no string does with r behind it
  pub record Skims (t : Token) : Type 0 where
    pub other : is String t ≡ false
    pub does : is_aside t ≡ false → (r : List ℕ) → (Stop s t.end → (ks : List ℕ) → skim spelled ks r ≡ skim bare ks r)
        → (ks : List ℕ) → skim bare ks (part s i t.end ++ r) ≡ cond (holds 96 (part s i t.end)) true (unless (held_by s t ks) (λ js. skim bare js r))

  one : part s i (i + 1) ≡ get_or s i 0 ∷ []
  one = part_more s i (i + 1) (omega arith) l ∙ ap (λ (r : List ℕ). get_or s i 0 ∷ r) (part_none s (i + 1) (i + 1) (le_refl (i + 1)))

  idle_skims : (t : Token) → is String t ≡ false → is Byte t ≡ false → Idle (part s i t.end) → Skims t
  idle_skims t a b h = record { other = a; does = λ c r f ks. rw (h.clean, b) (h.skims ks r) }

  idle_one : (k n : ℕ) → eqb k String ≡ false → eqb k Byte ≡ false → (p : ℕ → Bool) → p 0 ≡ false → any_of p keens ≡ false → p (get_or s i 0) ≡ true → Skims (plain k i (i + 1) n)
  idle_one k n a b p z h e =
      idle_skims (plain k i (i + 1) n) a b (part_idle p z h s i (i + 1) (omega arith) e (rw (part_none s (i + 1) (i + 1) (le_refl (i + 1))) idle_none))

  byte_skims : (n : ℕ) → eqb (get_or s i 0) 34 ≡ false → eqb (get_or s i 0) 92 ≡ false → Skims (plain Byte i (i + 1) n)
  unfolding skim holds
  byte_skims n a b = record { other = refl; does = λ c r f ks. rw (one, a, b, or_false (eqb (get_or s i 0) 96)) }

  name_idle : (p : ℕ → Bool) → p 0 ≡ false → any_of p keens ≡ false → p (get_or s i 0) ≡ true → Idle (part s i (run_end 36 s (i + 1)))
  name_idle p z h e =
      part_idle p z h s i (run_end 36 s (i + 1)) (omega (arith, run_after 36 s (i + 1))) e (run_idle 36 refl s (i + 1))

  based_idle : (k : ℕ) → is_base (get_or s k 0) ≡ true → Idle (part s k (run_end 63 s (k + 1)))
  based_idle k e = part_idle is_base refl refl s k (run_end 63 s (k + 1)) (omega (arith, run_after 63 s (k + 1))) e (run_idle 63 refl s (k + 1))

  based_skims : get_or s i 0 ≡ 39 → Skims (based_token s i)
  unfolding based_token digits_token
  based_skims q =
      let g : i + 2 ≡ i + 1 + 1 = omega arith in
      let b : Skims (plain Byte i (i + 1) 0) = byte_skims 0 (rw q) (rw q) in
      by_test Skims (is_sign (get_or s (i + 1) 0))
      (λ e. by_test Skims (is_base (get_or s (i + 2) 0))
      (λ d. let e3 = run_end 63 s (i + 2 + 1) in
      let l3 : i + 2 + 1 ≤ e3 = run_after 63 s (i + 2 + 1) in
      idle_skims (plain Based i e3 0) refl refl
      (part_idle (λ x. eqb x 39) refl refl s i e3 (omega arith) (rw q)
      (part_idle is_sign refl refl s (i + 1) e3 (omega arith) e (rw (← g) (based_idle (i + 2) d)))))
      (λ d. b))
      (λ e. by_test Skims (is_base (get_or s (i + 1) 0))
      (λ d. let e2 = run_end 63 s (i + 1 + 1) in
      let l2 : i + 1 + 1 ≤ e2 = run_after 63 s (i + 1 + 1) in
      idle_skims (plain Based i e2 0) refl refl (part_idle (λ x. eqb x 39) refl refl s i e2 (omega arith) (rw q) (based_idle (i + 1) d)))
      (λ d. b))

  aside_skims : (t : Token) → is String t ≡ false → is_aside t ≡ true → Skims t
  aside_skims t a b = record { other = a; does = λ c. true_false (is_aside t) b c }

  slash_skims : m.marks ≡ false → get_or s i 0 ≡ 47 → Skims (slash_token m s i)
  unfolding slash_token
  slash_skims k q =
      by_test Skims m.marks (λ e. true_false m.marks e k)
      (λ e. by_test Skims (eqb (get_or s (i + 1) 0) 47) (λ e. aside_skims _ refl refl)
      (λ e. by_test Skims (eqb (get_or s (i + 1) 0) 42) (λ e. aside_skims _ refl refl) (λ e. byte_skims 0 (rw q) (rw q))))

  -- a `\`
  escaped_skims : get_or s i 0 ≡ 92 → Skims (escaped_or Escaped i (i + 1) 0 (span_end true true s (i + 1)))
  unfolding skim holds step_of
  escaped_skims q =
      let k : Spans s (i + 1) (span_end true true s (i + 1)) = spans s (i + 1) in
      let e = (span_end true true s (i + 1)).end in
      let n = part s (i + 1) e in
      by_test Skims (eqb e (i + 1))
      (λ d. record { other = refl; does = λ c r f ks. rw (one, q) (f (subst (Stop s) (eqb-true e (i + 1) d) k.stop) ks) })
      (λ d. record { other = refl; does = λ c r f ks. rw (part_more s i e (omega (arith, k.past)) l, q) (solid_skim n k.solid ks r ∙ ap (cond (holds 96 n) true) (f k.stop ks)) })

  backslash_skims : m.marks ≡ false → get_or s i 0 ≡ 92 → Skims (backslash_token m s i)
  unfolding backslash_token
  backslash_skims k q =
      by_test Skims (m.define && eqb (get_or s (i + 1) 0) 10)
      (λ e. aside_skims _ refl (rw (and_left m.define (eqb (get_or s (i + 1) 0) 10) e)))
      (λ e. by_test Skims m.marks (λ e. true_false m.marks e k) (λ e. escaped_skims q))

  -- one that begins with a grave accent
  grave_other : is String (grave_token m s i) ≡ false
  unfolding grave_token escaped_grave
  grave_other =
      by_test Other (is_start (get_or s (i + 1) 0)) (λ e. refl)
      (λ e. by_test Other (eqb (get_or s (i + 1) 0) 34) (λ e. refl)
      (λ e. by_test Other (eqb (get_or s (i + 1) 0) 96) (λ e. refl)
      (λ e. by_test Other (eqb (get_or s (i + 1) 0) 92)
      (λ e. by_test Other (eqb (get_or s (i + 2) 0) 96 && eqb (get_or s (i + 3) 0) 34) (λ e. refl)
      (λ e. by_test Other m.marks (λ e. refl)
      (λ e. by_test Other (eqb (span_end true true s (i + 2)).end (i + 2)) (λ e. refl) (λ e. refl))))
      (λ e. refl))))
    where
      Other : Token → Type 0
      Other t = is String t ≡ false

  grave-token : get_or s i 0 ≡ 96 → token_at m s i ≡ grave_token m s i
  unfolding token_at sign_token
  grave-token q = rw (lt-leb (length s) i l, q)

  grave_skims : get_or s i 0 ≡ 96 → Skims (token_at m s i)
  unfolding skim holds
  grave_skims q =
      record {
        other = rw (grave-token q) grave_other;
        does = λ c r f ks. rw (part_more s i (token_at m s i).end (token_ends m s i l) l, q);
      }

  other_skims : m.marks ≡ false → eqb (get_or s i 0) 34 ≡ false → eqb (get_or s i 0) 96 ≡ false → Skims (token_at m s i)
  unfolding token_at sign_token
  other_skims k a b =
      rw (lt-leb (length s) i l, a, b)
      (by_test Skims (is_white (get_or s i 0)) (λ e. idle_one White 0 refl refl is_white refl refl e)
      (λ e. by_test Skims (is_start (get_or s i 0)) (λ e. idle_skims _ refl refl (name_idle is_start refl refl e))
      (λ e. by_test Skims (is_digit (get_or s i 0)) (λ e. idle_skims _ refl refl (name_idle is_digit refl refl e))
      (λ e. by_test Skims (eqb (get_or s i 0) 10) (λ e. idle_one Newline 0 refl refl (λ x. eqb x 10) refl refl e)
      (λ e. by_test Skims (eqb (get_or s i 0) 36) (λ e. idle_skims _ refl refl (name_idle (λ x. eqb x 36) refl refl e))
      (λ e. by_test Skims (eqb (get_or s i 0) 47) (λ e. slash_skims k (eqb-true (get_or s i 0) 47 e))
      (λ e. by_test Skims (eqb (get_or s i 0) 92) (λ e. backslash_skims k (eqb-true (get_or s i 0) 92 e))
      (λ f. by_test Skims (eqb (get_or s i 0) 39) (λ e. based_skims (eqb-true (get_or s i 0) 39 e))
      (λ e. byte_skims _ a f)))))))))

  -- the token at i, where no string begins
  pub skims : m.marks ≡ false → eqb (get_or s i 0) 34 ≡ false → Skims (token_at m s i)
  skims k a = go (eqb (get_or s i 0) 96) refl
    where
      go : (b : Bool) → eqb (get_or s i 0) 96 ≡ b → Skims (token_at m s i)
      go true e = grave_skims (eqb-true (get_or s i 0) 96 e)
      go false e = other_skims k a e
