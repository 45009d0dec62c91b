-- What the reader tells of a default beside that it is barred, because no definition can store it, refuses no definition: of a
-- default that its bytes show to have no grave accent outside strings, no unshielded `,` or `)` and no unmatched brackets.
-- Assumes nothing.
use Prim.Native.Nat.{ℕ, zero, suc, ◌+◌, ◌-◌, ◌<◌, ◌≤◌}
use mathlib.Core.Bool.{Bool, true, false, cond, not, ◌&&◌, ◌||◌}
use mathlib.Core.List.{List, [], ◌∷◌}
use mathlib.Core.Path.{◌≡◌, refl, sym, ap, ◌∙◌}
use native.Mathlib.Omega.{arith}
use lib.Dec.{eqb, leb}
use lib.ListN.{length, get_or, drop, drop_of_length-le}
use lib.Seq.{drop-cons, drop-drop}
use borrow.Author.Tests.{eqb-true, leb-true, leb-false, lt-leb, not-false}
use Rattle.text.specs.Bytes.{holds, part}
use Rattle.lex.specs.Classes.{is_white, is_digit, is_start, is_sign, is_base, is_legal}
use Rattle.lex.specs.Scans.{span_end, string_from, string_end}
use Rattle.lex.specs.Tokens.{in_file, in_text, between, LineComment, BlockComment, Newline, String, Quote, is, string_token, slash_token, backslash_token, digits_token, based_token, sign_token, token_at, tokens}
use Rattle.lex.specs.declared.Scan.{Scan}
use Rattle.lex.specs.declared.Token.{Token}
use Rattle.lex.proofs.Tests.{by_test, true_false}
use Rattle.lex.proofs.Progress.{token-at, token_ends}
use Rattle.lex.proofs.Listing.{tokens_out, file-tokens}
use Rattle.brackets.specs.Steps.{Step, on, done, torn}
use Rattle.afresh.specs.Judging.{is_barred, barred_in, bad_default}
use Rattle.afresh.specs.Unfit.{is_crowded, is_stray, is_accented, held_by, unless, unfit_held, unfit_default}
use Rattle.afresh.proofs.Sorts.{and_false}
use Rattle.afresh.proofs.Quoting.{string_past}
use Rattle.judging.proofs.Shapes.{Made}
use Rattle.judging.proofs.Rereading.{Stepped, barred, passed, steps}
use Rattle.judging.proofs.Shielding.{bare, quoted, escaped, skim, both_false, stop_skim, part_drop, Skims, skims}

unfinished : {a b : Bool} (ok : Bool) → ◌≡◌ {A = ℕ} (cond ok 3 2) 0 → a ≡ b
unfinished true z = absurd (omega arith)
unfinished false z = absurd (omega arith)

-- the rest of a string
raw_skim : (ks : List ℕ) (esc ok : Bool) (i : ℕ) (xs : List ℕ) → (string_from esc ok i xs).bar ≡ 0 → skim (cond esc escaped quoted) ks xs ≡ skim bare ks (drop ((string_from esc ok i xs).end - i) xs)
unfolding string_from skim
raw_skim ks true ok i [] z = unfinished ok z
raw_skim ks false ok i [] z = unfinished ok z
raw_skim ks true ok i (x ∷ xs) z =
    let r = string_from false (ok && is_legal x) (suc i) xs in
    let p : suc i ≤ r.end = string_past false (ok && is_legal x) (suc i) xs in
    let q : r.end - i ≡ suc (r.end - suc i) = omega arith in
    rw q (raw_skim ks false (ok && is_legal x) (suc i) xs z)
raw_skim ks false ok i (x ∷ xs) z =
    by_test (λ (r : Scan). r.bar ≡ 0 → skim quoted ks (x ∷ xs) ≡ skim bare ks (drop (r.end - i) (x ∷ xs))) (eqb x 34)
    (λ e z. let q : suc i - i ≡ 1 = omega arith in rw (q, e))
    (λ e. by_test (λ (r : Scan). r.bar ≡ 0 → skim quoted ks (x ∷ xs) ≡ skim bare ks (drop (r.end - i) (x ∷ xs))) (eqb x 10)
    (λ f z. unfinished ok z)
    (λ f z. let r = string_from (eqb x 92) (ok && is_legal x) (suc i) xs in
    let p : suc i ≤ r.end = string_past (eqb x 92) (ok && is_legal x) (suc i) xs in
    let q : r.end - i ≡ suc (r.end - suc i) = omega arith in
    rw (q, e) (raw_skim ks (eqb x 92) (ok && is_legal x) (suc i) xs z))) z

-- what a token that nothing bars does to the closing brackets due, and what follows it
record Next (w ks : List ℕ) (t : Token) : Type 0 where
  due : List ℕ
  plain : is_accented w t ≡ false
  steps_on : held_by w t ks ≡ on due
  rest : skim bare due (drop t.end w) ≡ false

-- a token of a default
module _ (w : List ℕ) (i : ℕ) (l : i < length w) where
  -- one that does not is read as in a text, and is no quote mark
  module _ (n : eqb (get_or w i 0) 96 ≡ false) where
    other_token : token_at in_file w i ≡ token_at (between in_text false) w i
    unfolding token_at sign_token slash_token backslash_token
    other_token = rw n

    abbrev Even : Token → Type 0
    Even t = is Quote t ≡ false

    digits_even : (k : ℕ) → Even (digits_token w i k)
    unfolding digits_token
    digits_even k = by_test Even (is_base (get_or w k 0)) (λ e. refl) (λ e. refl)

    other_even : Even (token_at (between in_text false) w i)
    unfolding token_at sign_token string_token slash_token backslash_token based_token
    other_even =
        rw (lt-leb (length w) i l, n)
        (by_test Even (is_white (get_or w i 0)) (λ e. refl)
        (λ e. by_test Even (is_start (get_or w i 0)) (λ e. refl)
        (λ e. by_test Even (is_digit (get_or w i 0)) (λ e. refl)
        (λ e. by_test Even (eqb (get_or w i 0) 10) (λ e. refl)
        (λ e. by_test Even (eqb (get_or w i 0) 36) (λ e. refl)
        (λ e. by_test Even (eqb (get_or w i 0) 34) (λ e. by_test Even (eqb (get_or w (i + 1) 0) 34 && eqb (get_or w (i + 2) 0) 34) (λ e. refl) (λ e. refl))
        (λ e. by_test Even (eqb (get_or w i 0) 47)
        (λ e. by_test Even (eqb (get_or w (i + 1) 0) 47) (λ e. refl) (λ e. by_test Even (eqb (get_or w (i + 1) 0) 42) (λ e. refl) (λ e. refl)))
        (λ e. by_test Even (eqb (get_or w i 0) 92) (λ e. by_test Even (eqb (span_end true true w (i + 1)).end (i + 1)) (λ e. refl) (λ e. refl))
        (λ e. by_test Even (eqb (get_or w i 0) 39)
        (λ e. by_test Even (is_sign (get_or w (i + 1) 0)) (λ e. digits_even (i + 2)) (λ e. digits_even (i + 1))) (λ e. refl))))))))))

  module _ (ks : List ℕ) (h : skim bare ks (drop i w) ≡ false) where
    string_next : get_or w i 0 ≡ 34 → (string_token w i).bar ≡ 0 → Next w ks (string_token w i)
    unfolding string_token string_end skim
    string_next q =
        by_test (λ (t : Token). t.bar ≡ 0 → Next w ks t) (eqb (get_or w (i + 1) 0) 34 && eqb (get_or w (i + 2) 0) 34) (λ e z. absurd (omega arith))
        (λ e z. let r = string_from false true (i + 1) (drop (i + 1) w) in
        let p : i + 1 ≤ r.end = string_past false true (i + 1) (drop (i + 1) w) in
        let a : i + 1 + (r.end - (i + 1)) ≡ r.end = omega arith in
        let b : i + 1 ≡ suc i = omega arith in
        let f : skim quoted ks (drop (suc i) w) ≡ false = rw (drop-cons w i 0 l, q) at h in
        let g : skim quoted ks (drop (i + 1) w) ≡ false = ap (λ (n : ℕ). skim quoted ks (drop n w)) b ∙ f in
        record {
          due = ks;
          plain = refl;
          steps_on = refl;
          rest = ap (λ (n : ℕ). skim bare ks (drop n w)) (sym a) ∙ (ap (skim bare ks) (sym (drop-drop (r.end - (i + 1)) (i + 1) w)) ∙ (sym (raw_skim ks false true (i + 1) (drop (i + 1) w) z) ∙ g));
        })

    string-token : get_or w i 0 ≡ 34 → token_at in_file w i ≡ string_token w i
    unfolding token_at sign_token
    string-token q = rw (lt-leb (length w) i l, q)

    abbrev t : Token
    t = token_at in_file w i

    other_next : eqb (get_or w i 0) 34 ≡ false → (is LineComment t || is BlockComment t) ≡ false → Next w ks t
    other_next n c =
        let k : Skims in_file w i l t = skims in_file w i l refl n in
        let d = both_false (is LineComment t) (is BlockComment t) c in
        let p : i < t.end = token_ends in_file w i l in
        let r = unless (held_by w t ks) (λ js. skim bare js (drop t.end w)) in
        let e : cond (holds 96 (part w i t.end)) true r ≡ false =
        sym (k.does (rw (d.0, d.1)) (drop t.end w) (stop_skim w t.end) ks) ∙ (ap (skim bare ks) (part_drop w i t.end (omega arith)) ∙ h) in
        go (holds 96 (part w i t.end)) (held_by w t ks) refl refl e
      where
        go : (a : Bool) (p : Step) → holds 96 (part w i t.end) ≡ a → held_by w t ks ≡ p → cond a true (unless p (λ js. skim bare js (drop t.end w))) ≡ false → Next w ks t
        go true p a b e = true_false true refl e
        go false (on js) a b e =
            record { due = js; plain = rw (token-at in_file w i, a) (and_false (not (is String t))); steps_on = b; rest = e }
        go false done a b e = true_false true refl e
        go false torn a b e = true_false true refl e

    next : t.bar ≡ 0 → (is LineComment t || is BlockComment t) ≡ false → Next w ks t
    next z c = go (eqb (get_or w i 0) 34) refl
      where
        go : (b : Bool) → eqb (get_or w i 0) 34 ≡ b → Next w ks t
        go true e =
            let q : get_or w i 0 ≡ 34 = eqb-true (get_or w i 0) 34 e in
            rw (string-token q) (string_next q (rw (string-token q) at z))
        go false e = other_next e c

    -- no grave accent begins it
    no_grave : eqb (get_or w i 0) 96 ≡ false
    unfolding skim
    no_grave = go (eqb (get_or w i 0) 96) refl
      where
        go : (b : Bool) → eqb (get_or w i 0) 96 ≡ b → b ≡ false
        go true e = rw (drop-cons w i 0 l, eqb-true (get_or w i 0) 96 e) at h
        go false e = refl

module _ (w : List ℕ) where
  abbrev Judged : List ℕ → ℕ → Type 0
  Judged ks i = unfit_held w ks (tokens in_file w i) ≡ barred_in (tokens in_file w i)

  module _ (ks : List ℕ) (i : ℕ) (l : i < length w) (h : skim bare ks (drop i w) ≡ false) where
    abbrev u : Token
    u = token_at in_file w i

    abbrev strictly : Bool
    strictly = unless (held_by w u ks) (λ js. unfit_held w js (tokens in_file w u.end))

    abbrev Alike : Type 0
    Alike = cond ((is_barred u || is_stray w false u) || is_accented w u) true strictly ≡ cond (is_barred u) true (barred_in (tokens in_file w u.end))

    judged_as : Alike → Judged ks i
    unfolding unfit_held barred_in
    judged_as a = rw (file-tokens w i l) a

    -- what is known of what follows
    abbrev Later : Type 0
    Later = (js : List ℕ) → Made false (drop u.end w) → skim bare js (drop u.end w) ≡ false → Judged js u.end

    stepped_alike : is Quote u ≡ false → Stepped w false u → Later → Alike
    stepped_alike q (barred e) f = rw e
    stepped_alike q (passed e m) f = go (is_barred u) refl
      where
        go : (b : Bool) → is_barred u ≡ b → cond ((b || is_stray w false u) || is_accented w u) true strictly ≡ cond b true (barred_in (tokens in_file w u.end))
        go true p = refl
        go false p =
            let z : u.bar ≡ 0 = eqb-true u.bar 0 (not-false (eqb u.bar 0) p) in
            let c : (is LineComment u || is BlockComment u) ≡ false =
            (both_false (is LineComment u || is BlockComment u) ((is Newline u && false) || ((is String u && holds 10 (part w u.at u.end)) || is_crowded w u)) e).0 in
            let n : Next w ks u = next w i l ks h z c in
            rw (e, n.plain, n.steps_on) (f n.due (rw q at m) n.rest)

    judged_next : Made false (drop i w) → Later → Judged ks i
    judged_next m f =
        let n : eqb (get_or w i 0) 96 ≡ false = no_grave w i l ks h in
        let z : u ≡ token_at (between in_text false) w i = other_token w i l n in
        judged_as (stepped_alike (rw z (other_even w i l n)) (rw z (steps w false i (drop i w) refl l m)) f)

  judged_out : (ks : List ℕ) (i : ℕ) → length w ≤ i → skim bare ks (drop i w) ≡ false → Judged ks i
  unfolding unfit_held barred_in skim
  judged_out ks i l h = rw (tokens_out in_file w i l) (rw (drop_of_length-le w l) at h)

  judged : (n : ℕ) (ks : List ℕ) (i : ℕ) → length w ≤ n + i → Made false (drop i w) → skim bare ks (drop i w) ≡ false → Judged ks i
  judged zero ks i h m s = judged_out ks i (omega arith) s
  judged (suc n) ks i h m s = go (leb (length w) i) refl (λ js j k r. judged n js j k r)
    where
      go : (a : Bool) → leb (length w) i ≡ a → ((js : List ℕ) (j : ℕ) → length w ≤ n + j → Made false (drop j w) → skim bare js (drop j w) ≡ false → Judged js j) → Judged ks i
      go true e f = judged_out ks i (leb-true (length w) i e) s
      go false e f =
          let l : i < length w = leb-false (length w) i e in
          let p : i < (token_at in_file w i).end = token_ends in_file w i l in
          judged_next ks i l s m (λ js r. f js (token_at in_file w i).end (omega arith) r)

pub nothing_more_held : (w : List ℕ) → Made false w → skim bare [] w ≡ false → unfit_default w ≡ bad_default w
unfolding unfit_default bad_default
nothing_more_held w m s = judged w (length w) [] 0 (omega arith) m s
