-- How far a definition reaches: past tokens that nothing bars and that are no marks, then over a stored text to its end.
-- Assumes nothing.
use Prim.Native.Nat.{ℕ, zero, suc, ◌+◌, ◌-◌, ◌<◌, ◌≤◌}
use mathlib.Core.Bool.{Bool, true, false, cond, not}
use mathlib.Core.List.{List, [], ◌∷◌, ◌++◌, append-nil}
use mathlib.Core.Path.{◌≡◌, refl, sym, ap, ◌∙◌}
use native.Mathlib.Omega.{arith}
use lib.Dec.{eqb, leb}
use lib.ListN.{length, get_or, drop, drop_of_length-le, length-drop}
use borrow.Author.Tests.{eqb-true, eqb-false, eq-eqb, leb-true, leb-false, le-leb}
use Rattle.lex.specs.Tokens.{in_definition, in_text, between, Newline, Quote, Continuation, Byte, is, is_mark, plain, marks_after, token_at, tokens}
use Rattle.lex.specs.Faults.{fault, no_fault, worse_of, Unbarred}
use Rattle.lex.specs.declared.Fault.{Fault}
use Rattle.lex.specs.declared.Token.{Token}
use Rattle.lex.proofs.Tests.{by_test, read_within}
use Rattle.lex.proofs.Progress.{token-at, token_ends, token_within}
use Rattle.lex.proofs.Listing.{tokens_out}
use Rattle.storing.proofs.Reading.{define_next}
use Rattle.afresh.specs.Unfit.{unfit_in, unfit_text}
use Rattle.definition.specs.Extents.{mark_of, extent_in, bars_of}
use Rattle.definition.specs.declared.Extent.{Extent}
use Rattle.genuine.specs.Spelling.{spelled}
use Rattle.genuine.proofs.Spelled.{Unmarked}
use Rattle.genuine.proofs.Aligning.{nothing, Aligned, byte_within, newline_within, newline_slash, newline_next, newline_past}
use Rattle.genuine.proofs.Turning.{fit_of, Taken, Turn, same, longer, token_turn}
use Rattle.genuine.proofs.Texts.{Fine, fine}
use Rattle.genuine.proofs.Breaking.{newline_token, slash-token, continuation_token}
use Rattle.genuine.proofs.Standing.{Reads, reads_unmarked, reads_next}

-- the next token, which nothing bars
module _ (e : ℕ) (t : Token) (ts : List Token) (z : t.bar ≡ 0) where
  extent_next : (mark : Fault) → extent_in e no_fault mark (t ∷ ts) ≡ extent_in t.end no_fault (mark_of mark t) ts
  unfolding extent_in
  extent_next mark = ap (λ (n : ℕ). extent_in t.end (worse_of no_fault (fault n t.at)) (mark_of mark t) ts) z

  extent_plain : is_mark t ≡ false → extent_in e no_fault no_fault (t ∷ ts) ≡ extent_in t.end no_fault no_fault ts
  extent_plain m = extent_next no_fault ∙ ap (λ (b : Bool). extent_in t.end no_fault (cond b (fault 4 t.at) no_fault) ts) m

-- the extent from i on is that from j on
pub record Quiet (s : List ℕ) (i j : ℕ) : Type 0 where
  pub extent : (e : ℕ) → extent_in e no_fault no_fault (tokens in_definition s i) ≡ extent_in j no_fault no_fault (tokens in_definition s j)

pub quiet_one : {s : List ℕ} {p : ℕ} {t : Token} → Reads s p t → Quiet s p t.end
quiet_one {s} {t = t} h =
    record {
      extent = λ e. ap (extent_in e no_fault no_fault) (reads_next h) ∙ extent_plain e t (tokens in_definition s t.end) h.free (reads_unmarked h);
    }

pub quiet_then : {s : List ℕ} {i j k : ℕ} → Quiet s i j → Quiet s j k → Quiet s i k
quiet_then {j = j} f g = record { extent = λ e. f.extent e ∙ g.extent j }

-- tokens before others
pub quiet_read : {read : List Token} (rest : List Token) (w : Extent) → Unbarred read → Unmarked read → ((e : ℕ) → extent_in e no_fault no_fault rest ≡ w)
    → (e : ℕ) → extent_in e no_fault no_fault (read ++ rest) ≡ w
quiet_read rest w Unbarred.none Unmarked.none f e = f e
quiet_read rest w (Unbarred.some {t} {ts} z u) (Unmarked.some q m) f e =
    extent_plain e t (ts ++ rest) z q ∙ quiet_read rest w u m f t.end

-- no mark, or one at x or behind
pub data Late (x : ℕ) (f : Fault) : Type 0 where
  none : f ≡ no_fault → Late x f
  late : x ≤ f.place → Late x f

-- an extent up to the text's end, without what would bar a definition whose macro text begins at x
pub record Ended (s : List ℕ) (x : ℕ) (w : Extent) : Type 0 where
  pub end : w.end ≡ length s
  pub bars : w.bars ≡ no_fault
  pub mark : Late x w.mark

pub ended_bars : {s : List ℕ} {x : ℕ} {w : Extent} → Ended s x w → (y : ℕ) → y ≤ x → bars_of w y ≡ no_fault
unfolding bars_of
ended_bars {s} {x} {w} h y l = go h.mark
  where
    go : Late x w.mark → bars_of w y ≡ no_fault
    go (none q) = rw (h.bars, q) (by_test (λ (f : Fault). f ≡ no_fault) (leb y 0) (λ e. refl) (λ e. refl))
    go (late q) = rw (le-leb y w.mark.place (omega arith), h.bars)

module _ (s w : List ℕ) (x : ℕ) where
  -- the rest of the text, with any mark before it
  abbrev Reached : Bool → ℕ → Type 0
  Reached b j = (f : Fault) → Late x f → Ended s x (extent_in j no_fault f (tokens (between in_definition b) s j))

  reached_out : (b : Bool) (i j : ℕ) → length w ≤ i → Aligned s w [] i j → j ≤ length s → Reached b j
  unfolding spelled extent_in
  reached_out b i j h a m f g =
      let p : drop j s ≡ [] = a.rest ∙ rw (drop_of_length-le w h) in
      let q : length s - j ≡ 0 = sym (length-drop j s) ∙ ap length p in
      let l : length s ≤ j = omega arith in
      rw (tokens_out (between in_definition b) s j l) (record { end = omega arith; bars = refl; mark = g })

  late_mark : (f : Fault) (t : Token) → x ≤ t.at → Late x f → Late x (mark_of f t)
  late_mark f t h g =
      by_test (Late x) (eqb f.number 0)
      (λ e. by_test (Late x) (is_mark t) (λ e. late h) (λ e. none refl)) (λ e. g)

  reached_next : (b : Bool) (j : ℕ) (t : Token) → t ≡ token_at (between in_definition b) s j → j < length s → x ≤ j → is Newline t ≡ false → t.bar ≡ 0 → Reached (marks_after b t) t.end → Reached b j
  reached_next b j t q l h n z k f g =
      let a : t.at ≡ j = ap (λ (t : Token). t.at) q ∙ token-at (between in_definition b) s j in
      rw (define_next b (between in_definition b) s j t refl q l (eqb-false t.kind Newline n), extent_next j t (tokens (between in_definition (marks_after b t)) s t.end) z f)
      (k (mark_of f t) (late_mark f t (omega arith) g))

  module _ (b : Bool) (i j : ℕ) where
    -- what is known of what follows
    abbrev Later : Type 0
    Later = (c : Bool) (e f : ℕ) → i < e → j < f → f ≤ length s → Aligned s w [] e f → unfit_in w c (tokens (between in_text c) w e) ≡ false → Reached c f

    module _ (a : Aligned s w [] i j) (h : x ≤ j) (l : i < length w) (g : unfit_in w b (tokens (between in_text b) w i) ≡ false) (k : Later) where
      reached_newline : get_or w i 0 ≡ 10 → Reached b j
      reached_newline n =
          let f : Fine w b (plain Newline i (i + 1) 0) = fine w b i (plain Newline i (i + 1) 0) (sym (newline_token w i true b n)) l g in
          let m : j + 1 < length s = read_within (λ y. eqb y 10) refl s (j + 1) (eq-eqb (get_or s (j + 1) 0) 10 (newline_next a l n)) in
          reached_next b j (plain Continuation j (j + 2) 0) (sym (continuation_token s j (newline_slash a l n) (newline_next a l n) b)) (newline_within a l n) h refl refl
          (k b (i + 1) (j + 2) (omega arith) (omega arith) (omega arith) (newline_past a l n) f.rest)

      module _ (n : eqb (get_or w i 0) 10 ≡ false) where
        reached_taken : (e : ℕ) (c : Bool) → i < e → Taken s w [] true b i j e (token_at (between in_definition b) s j) → marks_after b (token_at (between in_definition b) s j) ≡ c
            → unfit_in w c (tokens (between in_text c) w e) ≡ false → Reached b j
        reached_taken e c d t q r =
            let m = between in_definition b in
            let v : j < length s = byte_within a l n in
            reached_next b j (token_at m s j) refl v h t.going t.unbarred
            (rw q (k c e (token_at m s j).end d (token_ends m s j v) (token_within m s j v) t.along.aligned r))

        reached_turn : Turn s w [] true b i j (token_at (between in_definition b) s j) (token_at (between in_text b) w i) → Fine w b (token_at (between in_text b) w i) → Reached b j
        reached_turn (same e t) f =
            let u = token_at (between in_text b) w i in
            reached_taken u.end (marks_after b u) (token_ends (between in_text b) w i l) t
            (ap (λ (y : ℕ). cond (eqb y Quote) (not b) b) e) f.rest
        reached_turn (longer o t) f =
            let u = token_at (between in_text b) w i in
            let h : i < u.end = token_ends (between in_text b) w i l in
            let g : u.end < length w = omega (arith, t.along.within) in
            let c : marks_after b u ≡ b = rw o.unquoted in
            let r : unfit_in w b (tokens (between in_text b) w u.end) ≡ false = rw c at f.rest in
            let v : Fine w b (plain Byte u.end (u.end + 1) 0) = fine w b u.end (plain Byte u.end (u.end + 1) 0) (sym (slash-token w u.end o.slash o.newline true b)) g r in
            reached_taken (u.end + 1) b (omega arith) t (rw o.no_quote) v.rest

        reached_token : Reached b j
        reached_token =
            let f : Fine w b (token_at (between in_text b) w i) = fine w b i (token_at (between in_text b) w i) refl l g in
            reached_turn (token_turn true b i j a l n (fit_of w b (token_at (between in_text b) w i) f.fit)) f

      reached_step : (c : Bool) → eqb (get_or w i 0) 10 ≡ c → Reached b j
      reached_step true n = reached_newline (eqb-true (get_or w i 0) 10 n)
      reached_step false n = reached_token n

  reached_walk : (n : ℕ) (b : Bool) (i j : ℕ) → length w ≤ n + i → x ≤ j → j ≤ length s → Aligned s w [] i j → unfit_in w b (tokens (between in_text b) w i) ≡ false → Reached b j
  reached_walk zero b i j h d m a g = reached_out b i j (omega arith) a m
  reached_walk (suc n) b i j h d m a g = go (leb (length w) i) refl (λ c e f q r. reached_walk n c e f (omega arith) (omega arith))
    where
      go : (c : Bool) → leb (length w) i ≡ c → Later b i j → Reached b j
      go true q k = reached_out b i j (leb-true (length w) i q) a m
      go false q k = reached_step b i j a d (leb-false (length w) i q) g k (eqb (get_or w i 0) 10) refl

-- a stored text at the end of a definition
pub text_ended : (s w : List ℕ) (p : ℕ) → p ≤ length s → drop p s ≡ spelled w → unfit_text w ≡ false → Ended s p (extent_in p no_fault no_fault (tokens in_definition s p))
unfolding unfit_text
text_ended s w p l e g =
    let a : Aligned s w [] 0 p = record { behind = nothing; rest = e ∙ sym (append-nil (spelled w)) } in
    reached_walk s w p (length w) false 0 p (omega arith) (omega arith) l a g no_fault (none refl)
