-- A default as a definition delimits it, stored: no grave accent outside a string, no unshielded `,` or `)`, no unmatched bracket.
-- So, read afresh, nothing makes it bad but what 2 to 6 would bar.
-- Assumes nothing.
use Prim.Native.Nat.{ℕ, zero, suc, ◌+◌, ◌<◌, ◌≤◌}
use mathlib.Core.Bool.{Bool, true, false, cond, not, ◌&&◌, ◌||◌}
use mathlib.Core.List.{List, [], ◌∷◌, ◌++◌}
use mathlib.Core.Path.{◌≡◌, refl, sym, ap, subst, ◌∙◌}
use native.Mathlib.Omega.{arith}
use lib.Dec.{eqb, leb}
use lib.ListN.{length, get_or, drop}
use borrow.Author.Tests.{eqb-true, eq-eqb, leb-true, leb-false, lt-leb, lt-ltb}
use Rattle.text.specs.Bytes.{holds, part}
use Rattle.text.proofs.Matching.{part_more}
use Rattle.lex.specs.Classes.{is_space}
use Rattle.lex.specs.Scans.{string_from, string_end}
use Rattle.lex.specs.Tokens.{in_definition, between, Newline, LineComment, BlockComment, String, Quote, Byte, Continuation, is, marks_after, mode_after, string_token, sign_token, token_at, tokens}
use Rattle.lex.specs.Faults.{Unbarred}
use Rattle.lex.specs.declared.Mode.{Mode}
use Rattle.lex.specs.declared.Token.{Token}
use Rattle.lex.proofs.Tests.{by_test, true_false}
use Rattle.lex.proofs.Progress.{token-at, token_ends}
use Rattle.lex.proofs.Listing.{by_tokens}
use Rattle.brackets.specs.Steps.{Step, on, done, torn, step_of}
use Rattle.storing.specs.Stored.{joined_from, piece, pieces, keep, trim_left, trim_right, stored}
use Rattle.storing.specs.Graves.{is_free, grave_in, has_grave}
use Rattle.storing.proofs.Reading.{define_next}
use Rattle.storing.proofs.Joining.{pieces_past, pieces_next}
use Rattle.afresh.specs.Judging.{bad_default}
use Rattle.afresh.specs.Unfit.{held_by, is_open, unless, unfit_default}
use Rattle.afresh.proofs.Sorts.{apart}
use Rattle.afresh.proofs.Quoting.{string_past}
use Rattle.judging.proofs.Shielding.{Shield, bare, quoted, escaped, spelled, skim, both_false, calm_skim, space_calm, closed_skim, spaced_skim, Skims, skims}
use Rattle.judging.proofs.Scanning.{string_closed}
use Rattle.judging.proofs.Forming.{spaced_at}
use Rattle.judging.proofs.Storable.{stored_made}
use Rattle.judging.proofs.NothingMoreHeld.{nothing_more_held}
use Rattle.definition.specs.Extents.{Free}
use Rattle.definition.specs.Lists.{Ending, step_at, by_step, default_in, default_end}
use Rattle.definition.specs.Answers.{FreeDefault}
use Rattle.definition.specs.declared.Formal.{Formal}
use Rattle.definition.specs.declared.ReadError.TheVariants.{IllFormed}
use Rattle.std.specs.Prelude.{Ok, Err}
use Rattle.definition.proofs.Reading.{default_out, default_newline, default_on, default_done, default_torn}
use Rattle.definition.proofs.Onward.{first_free, plain_step}

-- ---- white space at both ends dropped

left_skim : (ks w : List ℕ) → skim bare ks (trim_left w) ≡ skim bare ks w
unfolding trim_left
left_skim ks [] = refl
left_skim ks (x ∷ xs) =
    by_test (λ (r : List ℕ). skim bare ks r ≡ skim bare ks (x ∷ xs)) (is_space x)
    (λ e. left_skim ks xs ∙ sym (calm_skim x (space_calm x e) ks xs)) (λ e. refl)

-- texts that go on alike
abbrev Alike : List ℕ → List ℕ → Type 0
Alike r w = (h : Shield) (ks : List ℕ) → skim h ks r ≡ skim h ks w

alike_more : (x : ℕ) (r w : List ℕ) → Alike r w → Alike (x ∷ r) (x ∷ w)
unfolding skim
alike_more x r w f bare ks = go (eqb x 34) (eqb x 92) (eqb x 96) (step_of x ks)
  where
    go : (a b c : Bool) (k : Step) → cond a (skim quoted ks r) (cond b (skim spelled ks r) (cond c true (unless k (λ js. skim bare js r)))) ≡ cond a (skim quoted ks w) (cond b (skim spelled ks w) (cond c true (unless k (λ js. skim bare js w))))
    go true b c k = f quoted ks
    go false true c k = f spelled ks
    go false false true k = refl
    go false false false (on js) = f bare js
    go false false false done = refl
    go false false false torn = refl
alike_more x r w f quoted ks = rw (f bare ks, f (cond (eqb x 92) escaped quoted) ks)
alike_more x r w f escaped ks = f quoted ks
alike_more x r w f spelled ks = rw (f bare ks, f spelled ks)

-- white space before nothing but white space
alike_space : (x : ℕ) (w : List ℕ) → is_space x ≡ true → Alike [] w → Alike [] (x ∷ w)
unfolding skim
alike_space x w e f bare ks = f bare ks ∙ sym (calm_skim x (space_calm x e) ks w)
alike_space x w e f quoted ks = rw (apart is_space x 34 e refl, apart is_space x 92 e refl) (f quoted ks)
alike_space x w e f escaped ks = f quoted ks
alike_space x w e f spelled ks = rw e (f bare ks)

alike_keep : (x : ℕ) (r w : List ℕ) → Alike r w → Alike (keep x r) (x ∷ w)
alike_keep x [] w f =
    by_test (λ (r : List ℕ). Alike r (x ∷ w)) (is_space x) (λ e. alike_space x w e f) (λ e. alike_more x [] w f)
alike_keep x (y ∷ ys) w f = alike_more x (y ∷ ys) w f

right_skim : (w : List ℕ) → Alike (trim_right w) w
unfolding trim_right
right_skim [] = λ h ks. refl
right_skim (x ∷ w) = alike_keep x (trim_right w) w (right_skim w)

-- ---- one token of a default

-- a default ends where no brackets are due
done_none : (c : ℕ) (ks : List ℕ) → step_of c ks ≡ done → ks ≡ []
unfolding step_of
done_none c [] = λ e. refl
done_none c (k ∷ ks) =
    by_test P (eqb c 44) (λ d e. not_on e)
    (λ d. by_test P (eqb c 41) (λ d. by_test P (eqb 41 k) (λ d e. not_on e) (λ d e. not_torn e))
    (λ d. by_test P (eqb c 93 || eqb c 125) (λ d. by_test P (eqb c k) (λ d e. not_on e) (λ d e. not_torn e))
    (λ d. by_test P (eqb c 40) (λ d e. not_on e)
    (λ d. by_test P (eqb c 91) (λ d e. not_on e)
    (λ d. by_test P (eqb c 123) (λ d e. not_on e) (λ d e. not_on e))))))
  where
    P : Step → Type 0
    P p = p ≡ done → k ∷ ks ≡ []

    not_on : {js : List ℕ} → on js ≡ done → k ∷ ks ≡ []
    not_on e = absurd (let z : ◌≡◌ {A = ℕ} 0 1 = cc in omega arith)

    not_torn : torn ≡ done → k ∷ ks ≡ []
    not_torn e = absurd (let z : ◌≡◌ {A = ℕ} 0 1 = cc in omega arith)

at_done : (s : List ℕ) (t : Token) (ks : List ℕ) → step_at s t ks ≡ done → ks ≡ []
unfolding step_at
at_done s t ks =
    by_test P (is Quote t) (λ d e. absurd (let z : ◌≡◌ {A = ℕ} 0 1 = cc in omega arith))
    (λ d. by_test P (is Byte t) (λ d. done_none (get_or s t.at 0) ks) (λ d e. absurd (let z : ◌≡◌ {A = ℕ} 0 1 = cc in omega arith)))
  where
    P : Step → Type 0
    P p = p ≡ done → ks ≡ []

held_step : (s : List ℕ) (t : Token) (ks js : List ℕ) → is Quote t ≡ false → step_at s t ks ≡ on js → held_by s t ks ≡ on js
unfolding step_at
held_step s t ks js q e = rw q at e

same_due : (s : List ℕ) (t : Token) (ks js : List ℕ) → is Byte t ≡ false → held_by s t ks ≡ on js → ks ≡ js
same_due s t ks js b e = let z : on ks ≡ on js = rw b at e in cc

comment_kind : (t : Token) → (is LineComment t || is BlockComment t) ≡ true → is Byte t ≡ false
comment_kind t = go (is LineComment t) refl
  where
    go : (a : Bool) → is LineComment t ≡ a → (a || is BlockComment t) ≡ true → is Byte t ≡ false
    go true p e = ap (λ (k : ℕ). eqb k Byte) (eqb-true t.kind LineComment p)
    go false p e = ap (λ (k : ℕ). eqb k Byte) (eqb-true t.kind BlockComment e)

clear : (c r : Bool) → cond c true r ≡ false → (c ≡ false) × (r ≡ false)
clear true r e = true_false true refl e
clear false r e = (refl, e)

-- where a default ends
abbrev stop_of : Ending → ℕ
stop_of (Ok p) = p.0
stop_of (Err e) = 0

torn_upto : {A : Type 0} {x y : ℕ} → ◌≡◌ {A = Ending} (Err IllFormed) (Ok (x, y)) → A
torn_upto e = absurd (cc)

free_kind : (a b c : Bool) → a ≡ false → (b || c) ≡ false → (h : Bool) → (not (a || (b || c)) && h) ≡ false → h ≡ false
free_kind a b c p q h e = rw (p, q) at e

module _ (s : List ℕ) (x : ℕ) where
  -- what is stored from e on
  abbrev rest : ℕ → List ℕ
  rest e = pieces s x false (tokens in_definition s e)

  module _ (i : ℕ) (l : i < length s) where
    -- a string
    string_piece : get_or s i 0 ≡ 34 → (string_token s i).bar ≡ 0 → (r ks js : List ℕ) → held_by s (string_token s i) ks ≡ on js
        → skim bare ks (piece s false (string_token s i) ++ r) ≡ skim bare js r
    unfolding string_token string_end piece joined_from skim
    string_piece q =
        by_test (λ (t : Token). t.bar ≡ 0 → (r ks js : List ℕ) → held_by s t ks ≡ on js → skim bare ks (piece s false t ++ r) ≡ skim bare js r)
        (eqb (get_or s (i + 1) 0) 34 && eqb (get_or s (i + 2) 0) 34) (λ e z. absurd (omega arith))
        (λ e z r ks js v. let w = string_from false true (i + 1) (drop (i + 1) s) in
        let p : i + 1 ≤ w.end = string_past false true (i + 1) (drop (i + 1) s) in
        let y : ks ≡ js = cc in
        rw (part_more s i w.end (omega arith) l, q)
        (closed_skim (joined_from false (part s (i + 1) w.end)) (string_closed false true (i + 1) (drop (i + 1) s) z) ks r ∙ ap (λ (k : List ℕ). skim bare k r) y))

    string-token : get_or s i 0 ≡ 34 → token_at in_definition s i ≡ string_token s i
    unfolding token_at sign_token
    string-token q = rw (lt-leb (length s) i l, q)

    abbrev t : Token
    t = token_at in_definition s i

    module _ (ks js : List ℕ) (v : held_by s t ks ≡ on js) where
      other_piece : eqb (get_or s i 0) 34 ≡ false → (not (is_free t) && holds 96 (part s t.at t.end)) ≡ false
          → skim bare ks (piece s false t ++ rest t.end) ≡ skim bare js (rest t.end)
      unfolding piece
      other_piece n y = go (is LineComment t || is BlockComment t) (is Continuation t) refl refl
        where
          r : List ℕ
          r = rest t.end

          k : Skims in_definition s i l t
          k = skims in_definition s i l refl n

          stays : is Byte t ≡ false → skim bare ks r ≡ skim bare js r
          stays b = ap (λ (d : List ℕ). skim bare d r) (same_due s t ks js b v)

          go : (a c : Bool) → (is LineComment t || is BlockComment t) ≡ a → is Continuation t ≡ c
              → skim bare ks (cond a (32 ∷ []) (cond c (10 ∷ []) (cond (is String t) (joined_from false (part s t.at t.end)) (part s t.at t.end))) ++ r) ≡ skim bare js r
          go true c p q = calm_skim 32 refl ks r ∙ stays (comment_kind t p)
          go false true p q = calm_skim 10 refl ks r ∙ stays (ap (λ (d : ℕ). eqb d Byte) (eqb-true t.kind Continuation q))
          go false false p q =
              let d = both_false (is LineComment t) (is BlockComment t) p in
              let h : holds 96 (part s i t.end) ≡ false =
              rw (token-at in_definition s i) at (free_kind (is String t) (is LineComment t) (is BlockComment t) k.other p (holds 96 (part s t.at t.end)) y) in
              rw (k.other, token-at in_definition s i)
              (k.does (rw (d.0, d.1, q)) r (λ st. spaced_skim r (spaced_at s x t.end st)) ks ∙ rw (h, v))

      skim_piece : t.bar ≡ 0 → (not (is_free t) && holds 96 (part s t.at t.end)) ≡ false → skim bare ks (piece s false t ++ rest t.end) ≡ skim bare js (rest t.end)
      skim_piece z y = go (eqb (get_or s i 0) 34) refl
        where
          go : (b : Bool) → eqb (get_or s i 0) 34 ≡ b → skim bare ks (piece s false t ++ rest t.end) ≡ skim bare js (rest t.end)
          go true e =
              let q : get_or s i 0 ≡ 34 = eqb-true (get_or s i 0) 34 e in
              let f : t ≡ string_token s i = string-token q in
              subst (λ (u : Token). skim bare ks (piece s false u ++ rest t.end) ≡ skim bare js (rest t.end)) (sym f)
              (string_piece q (ap (λ (u : Token). u.bar) (sym f) ∙ z) (rest t.end) ks js (ap (λ (u : Token). held_by s u ks) (sym f) ∙ v))
          go false e = other_piece e y

  -- ---- all of it

  -- it ends no earlier than it starts
  ends_past : {y : ℕ} (m : Mode) (i : ℕ) (ks : List ℕ) → default_in s ks (tokens m s i) ≡ Ok (x, y) → i ≤ x
  unfolding default_in
  ends_past {y} =
      by_tokens s (λ (m : Mode) (i : ℕ) (ts : List Token). (ks : List ℕ) → default_in s ks ts ≡ Ok (x, y) → i ≤ x)
      (λ m i l ks e. torn_upto e) (λ m i l n ks e. torn_upto e)
      (λ m i l n r ks. go (token_at m s i) i (token-at m s i) (token_ends m s i l) (step_at s (token_at m s i) ks) (λ js. default_in s js (tokens (mode_after m (token_at m s i)) s (token_at m s i).end)) r)
    where
      go : (t : Token) (i : ℕ) → t.at ≡ i → i < t.end → (p : Step) (f : List ℕ → Ending) → ((js : List ℕ) → f js ≡ Ok (x, y) → t.end ≤ x) → by_step p t f ≡ Ok (x, y) → i ≤ x
      go t i a b (on js) f r e = let h : t.end ≤ x = r js e in omega arith
      go t i a b done f r e = let h : t.at ≡ x = ap stop_of e in omega arith
      go t i a b torn f r e = torn_upto e

  module _ (y : ℕ) where
    abbrev Fine : ℕ → List ℕ → Type 0
    Fine i ks = Free s i → default_in s ks (tokens in_definition s i) ≡ Ok (x, y) → grave_in s x (tokens in_definition s i) ≡ false → skim bare ks (rest i) ≡ false

    module _ (i : ℕ) (ks : List ℕ) (l : i < length s) (k : (token_at in_definition s i).kind ≡ Newline → ⊥) (f : (js : List ℕ) → Fine (token_at in_definition s i).end js) where
      abbrev u : Token
      u = token_at in_definition s i

      fine_on : (js : List ℕ) → step_at s u ks ≡ on js → Fine i ks
      unfolding grave_in
      fine_on js p a d g =
          let q : is Quote u ≡ false = plain_step s u ks (λ z. let o : ◌≡◌ {A = ℕ} 0 1 = cc in omega arith) in
          let ts = tokens in_definition s u.end in
          let mk : marks_after false u ≡ false = rw q in
          let n : tokens in_definition s i ≡ u ∷ ts = define_next false in_definition s i u refl refl l k ∙ ap (λ (b : Bool). u ∷ tokens (between in_definition b) s u.end) mk in
          let b : default_in s js ts ≡ Ok (x, y) = sym (default_on s i in_definition u l refl refl ks k js p) ∙ d in
          let h : u.end ≤ x = ends_past in_definition u.end js b in
          let o : i < u.end = token_ends in_definition s i l in
          let c : u.at < x = rw (token-at in_definition s i) (omega arith) in
          let e : cond (not (is_free u) && holds 96 (part s u.at u.end)) true (grave_in s x ts) ≡ false = rw (n, lt-ltb u.at x c) at g in
          let w = clear (not (is_free u) && holds 96 (part s u.at u.end)) (grave_in s x ts) e in
          let v = first_free (subst Unbarred n a) in
          ap (skim bare ks) (pieces_next s x i false in_definition u refl refl l k (omega arith) false (sym mk))
          ∙ (skim_piece i l ks js (held_step s u ks js q p) v.0 w.0 ∙ f js v.1 b w.1)

      fine_done : step_at s u ks ≡ done → Fine i ks
      unfolding skim
      fine_done p a d g =
          let e : ◌≡◌ {A = Ending} (Ok (u.at, u.end)) (Ok (x, y)) = sym (default_done s i in_definition u l refl refl ks k p) ∙ d in
          let h : u.at ≡ x = ap stop_of e in
          let o : u.at ≡ i = token-at in_definition s i in
          ap (skim bare ks) (pieces_past s x i false (omega arith)) ∙ ap is_open (at_done s u ks p)

      fine_torn : step_at s u ks ≡ torn → Fine i ks
      fine_torn p a d g = let e : ◌≡◌ {A = Ending} (Err IllFormed) (Ok (x, y)) = sym (default_torn s i in_definition u l refl refl ks k p) ∙ d in torn_upto e

      fine_next : Fine i ks
      fine_next = go (step_at s u ks) refl
        where
          go : (p : Step) → step_at s u ks ≡ p → Fine i ks
          go (on js) p = fine_on js p
          go done p = fine_done p
          go torn p = fine_torn p

    fine : (n i : ℕ) → length s ≤ n + i → (ks : List ℕ) → Fine i ks
    fine zero i h ks = λ a d g. torn_upto (sym (default_out s i ks (omega arith)) ∙ d)
    fine (suc n) i h ks = go (leb (length s) i) (is Newline (token_at in_definition s i)) refl refl (λ j k js. fine n j k js)
      where
        go : (b c : Bool) → leb (length s) i ≡ b → is Newline (token_at in_definition s i) ≡ c → ((j : ℕ) → length s ≤ n + j → (js : List ℕ) → Fine j js) → Fine i ks
        go true c p q f = λ a d g. torn_upto (sym (default_out s i ks (leb-true (length s) i p)) ∙ d)
        go false true p q f = λ a d g.
            torn_upto (sym (default_newline s i in_definition (token_at in_definition s i) (leb-false (length s) i p) refl refl ks (eqb-true (token_at in_definition s i).kind Newline q)) ∙ d)
        go false false p q f =
            let t = token_at in_definition s i in
            let l : i < length s = leb-false (length s) i p in
            let o : i < t.end = token_ends in_definition s i l in
            fine_next i ks l (λ e. true_false (is Newline t) (eq-eqb t.kind Newline e) q) (f t.end (omega arith))

-- a default that starts at i and ends at x
shielded : (s : List ℕ) (i x : ℕ) {y : ℕ} → Free s i → default_end s i ≡ Ok (x, y) → has_grave s i x ≡ false → skim bare [] (stored s i x) ≡ false
unfolding stored default_end has_grave
shielded s i x {y} u e g =
    right_skim (trim_left (rest s x i)) bare [] ∙ (left_skim [] (rest s x i) ∙ fine s x y (length s) i (omega arith) [] u e g)

-- what is stored of a formal's default: the reader tells no more than that it is bad
pub default_more : (s : List ℕ) (f : Formal) → FreeDefault s f → f.given ≡ true → has_grave s f.first f.stop ≡ false
    → unfit_default (stored s f.first f.stop) ≡ bad_default (stored s f.first f.stop)
default_more s f u g h =
    let v = u g in
    nothing_more_held (stored s f.first f.stop) (stored_made s f.first f.stop v.0) (shielded s f.first f.stop v.0 v.1 h)
