-- A stored default that is not bad, as it is spelled in a definition: its tokens there, which nothing bars, hold no quote
-- mark, no joiner and no grave accent outside a string, match their brackets, and are stored as they were.
-- Assumes nothing.
use Prim.Native.Nat.{ℕ, zero, suc, ◌+◌, ◌-◌, ◌<◌, ◌≤◌}
use mathlib.Core.Bool.{Bool, true, false, cond, not, ◌&&◌, ◌||◌}
use mathlib.Core.List.{List, [], ◌∷◌, ◌++◌, append_assoc}
use mathlib.Core.Path.{◌≡◌, refl, sym, ap, ◌∙◌}
use native.Mathlib.Omega.{arith}
use lib.Dec.{eqb, leb}
use lib.ListN.{length, get_or, drop, drop_of_length-le, length-append, length-drop}
use lib.Seq.{drop-cons}
use borrow.Author.Tests.{eqb-true, eqb-false, eq-eqb, leb-true, leb-false, lt-ltb}
use Rattle.text.specs.Bytes.{holds, part}
use Rattle.text.proofs.Matching.{part_more, part_none}
use Rattle.lex.specs.Tokens.{in_definition, in_file, Newline, LineComment, BlockComment, String, Continuation, Byte, is, is_mark, plain, marks_after, token_at, tokens}
use Rattle.lex.specs.Faults.{Unbarred}
use Rattle.lex.specs.declared.Token.{Token}
use Rattle.lex.proofs.Tests.{by_test, true_false, read_within}
use Rattle.lex.proofs.Progress.{token-at, token_ends}
use Rattle.lex.proofs.Listing.{tokens_out, file-tokens}
use Rattle.brackets.specs.Steps.{Step, on, done, torn, step_of}
use Rattle.storing.specs.Stored.{piece, pieces}
use Rattle.storing.specs.Graves.{is_free, grave_in}
use Rattle.storing.proofs.Reading.{define_next}
use Rattle.afresh.specs.Unfit.{is_accented, held_by, is_open, unless, is_unfit, unfit_held, unfit_default}
use Rattle.judging.proofs.Shielding.{part_drop}
use Rattle.genuine.specs.Spelling.{spelled}
use Rattle.genuine.proofs.Tests.{or_left, or_right, and_false, and_first, and_second, passed}
use Rattle.genuine.proofs.Parts.{part_join, part_one, holds_append}
use Rattle.genuine.proofs.Spelled.{Unmarked, no_quote, Passes, DefaultRead}
use Rattle.genuine.proofs.Aligning.{space, Aligned, byte_alike, byte_within, newline_within, newline_slash, newline_next, newline_past}
use Rattle.genuine.proofs.Turning.{fit_of, Taken, Turn, same, longer, token_turn}
use Rattle.genuine.proofs.Breaking.{newline_token, slash-token, continuation_token}

-- a default that is not bad: its next token is fit, and what follows is not bad
record Fine (w ks : List ℕ) (u : Token) : Type 0 where
  fit : is_unfit w false u ≡ false
  plain : is_accented w u ≡ false
  js : List ℕ
  steps : held_by w u ks ≡ on js
  rest : unfit_held w js (tokens in_file w u.end) ≡ false

fine : (w ks : List ℕ) (i : ℕ) (u : Token) → u ≡ token_at in_file w i → i < length w → unfit_held w ks (tokens in_file w i) ≡ false → Fine w ks u
unfolding unfit_held
fine w ks i u q l e =
    let r = unless (held_by w u ks) (λ (js : List ℕ). unfit_held w js (tokens in_file w u.end)) in
    let p : cond (is_unfit w false u || is_accented w u) true r ≡ false = rw (file-tokens w i l, ← q) at e in
    let h = passed (is_unfit w false u || is_accented w u) r p in
    go (held_by w u ks) refl h.0 h.1
  where
    go : (d : Step) → held_by w u ks ≡ d → (is_unfit w false u || is_accented w u) ≡ false → unless d (λ (js : List ℕ). unfit_held w js (tokens in_file w u.end)) ≡ false → Fine w ks u
    go (on js) z g h =
        record {
          fit = or_left (is_unfit w false u) (is_accented w u) g;
          plain = or_right (is_unfit w false u) (is_accented w u) g;
          js = js;
          steps = z;
          rest = h;
        }
    go done z g h = true_false true refl h
    go torn z g h = true_false true refl h

none_open : (ks : List ℕ) → is_open ks ≡ false → ks ≡ []
none_open [] e = refl
none_open (k ∷ ks) e = cc

on_same : {js ks : List ℕ} → on js ≡ on ks → js ≡ ks
on_same e = cc

-- a `\`, or what is no single byte, opens and closes nothing
slash_held : (w : List ℕ) (u : Token) (ks : List ℕ) → (is Byte u ≡ true → get_or w u.at 0 ≡ 92) → held_by w u ks ≡ on ks
unfolding step_of
slash_held w u ks f = by_test (λ (d : Step). d ≡ on ks) (is Byte u) (λ e. rw (f e)) (λ e. refl)

-- no grave accent outside what is free
free_plain : (a c h : Bool) → (not a && h) ≡ false → (not (a || c) && h) ≡ false
free_plain true c h e = refl
free_plain false c h e = and_false (not c) h e

module _ (s w r : List ℕ) (e : ℕ) (z : length s ≡ e + length (32 ∷ r)) where
  -- w from i on is what is stored of s from j to e
  record Held (ks : List ℕ) (i j : ℕ) : Type 0 where
    read : List Token
    split : tokens in_definition s j ≡ read ++ tokens in_definition s e
    unbarred : Unbarred read
    unmarked : Unmarked read
    passes : Passes s read ks []
    stored : (x : ℕ) (rest : List Token) → e ≤ x → pieces s x false (read ++ rest) ≡ drop i w ++ pieces s x false rest
    plain : (x : ℕ) (rest : List Token) → e ≤ x → grave_in s x (read ++ rest) ≡ grave_in s x rest

  held_out : (ks : List ℕ) (i j : ℕ) → length w ≤ i → Aligned s w (32 ∷ r) i j → unfit_held w ks (tokens in_file w i) ≡ false → Held ks i j
  unfolding spelled unfit_held
  held_out ks i j h a g =
      let p : drop j s ≡ 32 ∷ r = a.rest ∙ rw (drop_of_length-le w h) in
      let q : length s - j ≡ length (32 ∷ r) = sym (length-drop j s) ∙ ap length p in
      let d : j ≡ e = omega arith in
      let o : is_open ks ≡ false = rw (tokens_out in_file w i h) at g in
      record {
        read = [];
        split = ap (λ (n : ℕ). tokens in_definition s n) d;
        unbarred = Unbarred.none;
        unmarked = Unmarked.none;
        passes = rw (none_open ks o) Passes.none;
        stored = λ x rest f. rw (drop_of_length-le w h);
        plain = λ x rest f. refl;
      }

  -- there is something left
  spelled_some : (i : ℕ) → i < length w → 1 ≤ length (spelled (drop i w))
  unfolding spelled
  spelled_some i l =
      rw (drop-cons w i 0 l)
      (by_test (λ (y : List ℕ). 1 ≤ length y) (eqb (get_or w i 0) 10) (λ e. omega arith) (λ e. omega arith))

  before : (i j : ℕ) → i < length w → Aligned s w (32 ∷ r) i j → j < e
  before i j l a =
      let p : length s - j ≡ length (spelled (drop i w)) + length (32 ∷ r) = sym (length-drop j s) ∙ (ap length a.rest ∙ length-append (spelled (drop i w)) (32 ∷ r)) in
      omega (arith, spelled_some i l)

  module _ (ks : List ℕ) (i j : ℕ) where
    module _ (c : ℕ) (t : Token) (q : t ≡ token_at in_definition s j) (l : j < length s) (m : j < e) (n : is Newline t ≡ false) (u : t.bar ≡ 0) (g : piece s false t ≡ part w i c) (h : i ≤ c) (o : is_mark t ≡ false) (y : (not (is_free t) && holds 96 (part s t.at t.end)) ≡ false) (js : List ℕ) (v : held_by s t ks ≡ on js) (k : Held js c t.end) where
      starts : t.at ≡ j
      starts = ap (λ (t : Token). t.at) q ∙ token-at in_definition s j

      stays : marks_after false t ≡ false
      stays = rw (no_quote t o)

      next_split : tokens in_definition s j ≡ (t ∷ k.read) ++ tokens in_definition s e
      next_split = define_next false in_definition s j t refl q l (eqb-false t.kind Newline n) ∙ rw (stays) (ap (λ (ts : List Token). t ∷ ts) k.split)

      next_stored : (x : ℕ) (rest : List Token) → e ≤ x → pieces s x false ((t ∷ k.read) ++ rest) ≡ drop i w ++ pieces s x false rest
      unfolding pieces
      next_stored x rest f =
          let d : t.at < x = rw starts (omega arith) in
          rw (lt-ltb t.at x d, stays, g, k.stored x rest f)
          (sym (append_assoc (part w i c) (drop c w) (pieces s x false rest)) ∙ ap (λ (p : List ℕ). p ++ pieces s x false rest) (part_drop w i c h))

      next_plain : (x : ℕ) (rest : List Token) → e ≤ x → grave_in s x ((t ∷ k.read) ++ rest) ≡ grave_in s x rest
      unfolding grave_in
      next_plain x rest f =
          let d : t.at < x = rw starts (omega arith) in
          rw (lt-ltb t.at x d, y) (k.plain x rest f)

      held_next : Held ks i j
      held_next =
          record {
            read = t ∷ k.read;
            split = next_split;
            unbarred = Unbarred.some u k.unbarred;
            unmarked = Unmarked.some o k.unmarked;
            passes = Passes.some v k.passes;
            stored = next_stored;
            plain = next_plain;
          }

    -- what is known of what follows
    abbrev Later : Type 0
    Later = (js : List ℕ) (c f : ℕ) → i < c → Aligned s w (32 ∷ r) c f → unfit_held w js (tokens in_file w c) ≡ false → Held js c f

    module _ (a : Aligned s w (32 ∷ r) i j) (l : i < length w) (g : unfit_held w ks (tokens in_file w i) ≡ false) (k : Later) where
      held_newline : get_or w i 0 ≡ 10 → Held ks i j
      unfolding piece holds
      held_newline n =
          let f : Fine w ks (plain Newline i (i + 1) 0) = fine w ks i (plain Newline i (i + 1) 0) (sym (newline_token w i false false n)) l g in
          let d : j < length s = newline_within a l n in
          let b : get_or s (j + 1) 0 ≡ 10 = newline_next a l n in
          let p : part w i (i + 1) ≡ 10 ∷ [] = part_one w i l ∙ ap (λ (y : ℕ). y ∷ []) n in
          let m : j + 1 < length s = read_within (λ y. eqb y 10) refl s (j + 1) (eq-eqb (get_or s (j + 1) 0) 10 b) in
          let h : part s j (j + 2) ≡ 92 ∷ part s (j + 1) (j + 2) = part_more s j (j + 2) (omega arith) d ∙ ap (λ (y : ℕ). y ∷ part s (j + 1) (j + 2)) (newline_slash a l n) in
          let q : part s (j + 1) (j + 2) ≡ 10 ∷ part s (j + 1 + 1) (j + 2) = part_more s (j + 1) (j + 2) (omega arith) m ∙ ap (λ (y : ℕ). y ∷ part s (j + 1 + 1) (j + 2)) b in
          held_next (i + 1) (plain Continuation j (j + 2) 0) (sym (continuation_token s j (newline_slash a l n) b false)) d (before i j l a) refl refl
          (sym p) (omega arith) refl (rw (h, q, part_none s (j + 1 + 1) (j + 2) (omega arith))) f.js f.steps
          (k f.js (i + 1) (j + 2) (omega arith) (newline_past a l n) f.rest)

      module _ (n : eqb (get_or w i 0) 10 ≡ false) where
        held_taken : (c : ℕ) (js : List ℕ) → i < c → Taken s w (32 ∷ r) false false i j c (token_at in_definition s j) → (not (is_free (token_at in_definition s j)) && holds 96 (part w i c)) ≡ false
            → held_by s (token_at in_definition s j) ks ≡ on js → unfit_held w js (tokens in_file w c) ≡ false → Held ks i j
        held_taken c js h t y v b =
            let m = token_at in_definition s j in
            let p : part s m.at m.end ≡ part w i c = ap (λ (p : ℕ). part s p m.end) (token-at in_definition s j) ∙ t.along.same in
            held_next c m refl (byte_within a l n) (before i j l a) t.going t.unbarred t.gives t.along.past (and_first (is_mark m) true refl t.unmarked)
            (ap (λ (q : List ℕ). not (is_free m) && holds 96 q) p ∙ y) js v
            (k js c m.end h t.along.aligned b)

        held_turn : Turn s w (32 ∷ r) false false i j (token_at in_definition s j) (token_at in_file w i) → Fine w ks (token_at in_file w i) → Held ks i j
        held_turn (same q t) f =
            let m = token_at in_definition s j in
            let u = token_at in_file w i in
            let x : m.at ≡ j = token-at in_definition s j in
            let y : u.at ≡ i = token-at in_file w i in
            let d : held_by s m ks ≡ held_by w u ks = rw (q, x, y, byte_alike a l n) in
            let h : (not (is String m) && holds 96 (part w i u.end)) ≡ false = ap (λ (p : ℕ). not (eqb p String) && holds 96 (part w i u.end)) q ∙ (ap (λ (p : ℕ). not (is String u) && holds 96 (part w p u.end)) (sym y) ∙ f.plain) in
            held_taken u.end f.js (token_ends in_file w i l) t
            (free_plain (is String m) (is LineComment m || is BlockComment m) (holds 96 (part w i u.end)) h) (d ∙ f.steps) f.rest
        held_turn (longer o t) f =
            let m = token_at in_definition s j in
            let u = token_at in_file w i in
            let x : u.at ≡ i = token-at in_file w i in
            let h : i < u.end = token_ends in_file w i l in
            let d : u.end < length w = omega (arith, t.along.within) in
            let b : held_by w u ks ≡ on ks = slash_held w u ks (λ q. ap (λ (p : ℕ). get_or w p 0) x ∙ o.led q) in
            let y : f.js ≡ ks = on_same (sym f.steps ∙ b) in
            let p : unfit_held w ks (tokens in_file w u.end) ≡ false = ap (λ (js : List ℕ). unfit_held w js (tokens in_file w u.end)) (sym y) ∙ f.rest in
            let v : Fine w ks (plain Byte u.end (u.end + 1) 0) = fine w ks u.end (plain Byte u.end (u.end + 1) 0) (sym (slash-token w u.end o.slash o.newline false false)) d p in
            let c : held_by w (plain Byte u.end (u.end + 1) 0) ks ≡ on ks = slash_held w (plain Byte u.end (u.end + 1) 0) ks (λ q. o.slash) in
            let g : holds 96 (part w i u.end) ≡ false = ap (λ (p : ℕ). holds 96 (part w p u.end)) (sym x) ∙ and_second (not (is String u)) (holds 96 (part w u.at u.end)) (rw o.no_string) f.plain in
            let z : holds 96 (part w i (u.end + 1)) ≡ false = ap (holds 96) (part_join w i u.end (u.end + 1) (omega arith) (omega arith)) ∙ holds_append 96 (part w i u.end) (part w u.end (u.end + 1)) g v.plain in
            held_taken (u.end + 1) v.js (omega arith) t (and_false (not (is_free m)) (holds 96 (part w i (u.end + 1))) z)
            (◌∙◌ {b = on ks} (rw o.no_byte) (sym c ∙ v.steps)) v.rest

        held_token : Held ks i j
        held_token =
            let f : Fine w ks (token_at in_file w i) = fine w ks i (token_at in_file w i) refl l g in
            held_turn (token_turn false false i j a l n (fit_of w false (token_at in_file w i) f.fit)) f

      held_step : (c : Bool) → eqb (get_or w i 0) 10 ≡ c → Held ks i j
      held_step true n = held_newline (eqb-true (get_or w i 0) 10 n)
      held_step false n = held_token n

  default_walk : (n : ℕ) (ks : List ℕ) (i j : ℕ) → length w ≤ n + i → Aligned s w (32 ∷ r) i j → unfit_held w ks (tokens in_file w i) ≡ false → Held ks i j
  default_walk zero ks i j h a g = held_out ks i j (omega arith) a g
  default_walk (suc n) ks i j h a g = go (leb (length w) i) refl (λ js c f q. default_walk n js c f (omega arith))
    where
      go : (c : Bool) → leb (length w) i ≡ c → Later ks i j → Held ks i j
      go true q k = held_out ks i j (leb-true (length w) i q) a g
      go false q k = held_step ks i j a (leb-false (length w) i q) g k (eqb (get_or w i 0) 10) refl

pub default_read : (s d tail : List ℕ) (p : ℕ) → drop p s ≡ spelled d ++ (32 ∷ tail) → unfit_default d ≡ false → DefaultRead s d p (p + length (spelled d))
unfolding unfit_default
default_read s d tail p e g =
    let q : length s - p ≡ length (spelled d) + length (32 ∷ tail) = sym (length-drop p s) ∙ (ap length e ∙ length-append (spelled d) (32 ∷ tail)) in
    let z : length s ≡ p + length (spelled d) + length (32 ∷ tail) = omega arith in
    let k : Held s d tail (p + length (spelled d)) z [] 0 p = default_walk s d tail (p + length (spelled d)) z (length d) [] 0 p (omega arith) (record { behind = space; rest = e }) g in
    record {
      read = k.read;
      split = k.split;
      unbarred = k.unbarred;
      unmarked = k.unmarked;
      passes = k.passes;
      stored = k.stored;
      plain = k.plain;
    }
