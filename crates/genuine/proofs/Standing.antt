-- What stands in a definition at a place, and the token there.
-- Assumes nothing.
use Prim.Native.Nat.{ℕ, suc, ◌+◌, ◌-◌, ◌<◌, ◌≤◌}
use mathlib.Core.Bool.{true, false, cond, not, ◌&&◌, ◌||◌}
use mathlib.Core.List.{List, [], ◌∷◌, ◌++◌}
use mathlib.Core.Path.{◌≡◌, refl, sym, ap, ◌∙◌}
use native.Mathlib.Omega.{arith}
use lib.Dec.{eqb, leb, ltb}
use lib.ListN.{length, get_or, drop, length-drop}
use lib.Seq.{drop-drop, drop-append_seam, take-append_seam}
use borrow.Author.Tests.{eqb-false, ne_eqb, le-leb, lt-leb, leb-true, lt-ltb, le-ltb, ltb-true}
use Rattle.text.specs.Bytes.{part}
use Rattle.lex.specs.Classes.{is_white, is_start, is_digit, is_run, is_legal, is_span}
use Rattle.lex.specs.Scans.{scan, run_from, run_end, span_from, span_end}
use Rattle.lex.specs.Tokens.{in_definition, White, Newline, Name, Escaped, Byte, Number, Dollar, is, plain, named, backslash_token, sign_token, is_gap, is_mark, token_at, tokens}
use Rattle.lex.specs.declared.Token.{Token}
use Rattle.lex.proofs.Tests.{and_left, and_right, true_false}
use Rattle.names.specs.Names.{is_directive}
use Rattle.storing.specs.Stored.{piece, pieces}
use Rattle.storing.proofs.Reading.{define_next}
use Rattle.definition.specs.Heads.{gap_end, next_at}
use Rattle.definition.proofs.Reading.{gap_on, gap_stop}
use Rattle.genuine.specs.Fitness.{is_short, all_solid, all_run, fit_name, fit_formal}
use Rattle.genuine.proofs.Tests.{or_left, or_right, and_false}
use Rattle.genuine.proofs.Parts.{head_at, part_one}
use Rattle.genuine.proofs.Spelled.{no_quote}

-- the byte x at p, and r behind it
pub record Stands (s : List ℕ) (p x : ℕ) (r : List ℕ) : Type 0 where
  pub within : p < length s
  pub byte : get_or s p 0 ≡ x
  pub rest : drop (p + 1) s ≡ r

pub stands : (s : List ℕ) (p x : ℕ) (r : List ℕ) → drop p s ≡ x ∷ r → Stands s p x r
stands s p x r e =
    let q : length s - p ≡ suc (length r) = sym (length-drop p s) ∙ ap length e in
    record {
      within = omega arith;
      byte = sym (head_at s p) ∙ ap (λ (w : List ℕ). get_or w 0 0) e;
      rest = sym (drop-drop 1 p s) ∙ ap (drop 1) e;
    }

-- f at p, and r behind it
module _ (s f r : List ℕ) (p : ℕ) (e : drop p s ≡ f ++ r) where
  pub past : drop (p + length f) s ≡ r
  past = sym (drop-drop (length f) p s) ∙ (ap (drop (length f)) e ∙ drop-append_seam f r)

  pub front : part s p (p + length f) ≡ f
  front =
      let q : p + length f - p ≡ length f = omega arith in
      rw (q, e) (take-append_seam f r)

-- the token t at p, which nothing bars, is no newline, quote mark or joiner
pub record Reads (s : List ℕ) (p : ℕ) (t : Token) : Type 0 where
  pub within : p < length s
  pub token : token_at in_definition s p ≡ t
  pub free : t.bar ≡ 0
  pub plain : (is Newline t || is_mark t) ≡ false

module _ {s : List ℕ} {p : ℕ} {t : Token} (h : Reads s p t) where
  pub reads_unmarked : is_mark t ≡ false
  reads_unmarked = or_right (is Newline t) (is_mark t) h.plain

  pub reads_next : tokens in_definition s p ≡ t ∷ tokens in_definition s t.end
  reads_next =
      define_next false in_definition s p t refl (sym h.token) h.within (eqb-false t.kind Newline (or_left (is Newline t) (is_mark t) h.plain))
      ∙ rw (no_quote t reads_unmarked)

  pub reads_gap : is_gap t ≡ true → gap_end s p ≡ gap_end s t.end
  reads_gap g = gap_on s p in_definition t h.within refl (sym h.token) (is_gap t) refl (rw g)

  pub reads_stop : is_gap t ≡ false → gap_end s p ≡ p
  reads_stop g = gap_stop s p in_definition t h.within refl (sym h.token) (is_gap t) refl (rw g)

  pub reads_word : is_gap t ≡ false → next_at s p ≡ t
  reads_word g = rw (reads_stop g) h.token

-- a space
pub white_reads : (s r : List ℕ) (p : ℕ) → drop p s ≡ 32 ∷ r → Reads s p (plain White p (p + 1) 0)
unfolding token_at
white_reads s r p e =
    let h : Stands s p 32 r = stands s p 32 r e in
    record { within = h.within; token = rw (lt-leb (length s) p h.within, h.byte); free = refl; plain = refl }

-- it is stored as it stands
pub space_pieces : (s r : List ℕ) (p x : ℕ) → drop p s ≡ 32 ∷ r → p < x → pieces s x false (tokens in_definition s p) ≡ 32 ∷ pieces s x false (tokens in_definition s (p + 1))
unfolding pieces piece
space_pieces s r p x e l =
    let h : Stands s p 32 r = stands s p 32 r e in
    rw (reads_next (white_reads s r p e), lt-ltb p x l, part_one s p h.within, h.byte)

-- a token that begins with c
abbrev token_by : List ℕ → ℕ → ℕ → Token
token_by s i c =
    cond (is_white c) (plain White i (i + 1) 0)
    (cond (is_start c) (named Name i i (run_end 36 s (i + 1)) 0)
    (cond (is_digit c) (plain Number i (run_end 36 s (i + 1)) 0)
    (cond (eqb c 10) (plain Newline i (i + 1) 0)
    (cond (eqb c 36) (plain Dollar i (run_end 36 s (i + 1)) 0)
    (sign_token in_definition s i c)))))

-- a byte that begins nothing longer
pub data Lone : ℕ → Type 0 where
  opener : Lone 40
  closer : Lone 41
  comma : Lone 44
  equals : Lone 61

pub lone_reads : (s r : List ℕ) (p : ℕ) {c : ℕ} → Lone c → drop p s ≡ c ∷ r → Reads s p (plain Byte p (p + 1) 0)
unfolding token_at sign_token
lone_reads s r p {c} k e =
    let h : Stands s p c r = stands s p c r e in
    record { within = h.within; token = rw (lt-leb (length s) p h.within, h.byte) (go k); free = refl; plain = refl }
  where
    go : {c : ℕ} → Lone c → token_by s p c ≡ plain Byte p (p + 1) 0
    go opener = refl
    go closer = refl
    go comma = refl
    go equals = refl

-- a byte of an escaped name
module _ (x : ℕ) (h : (leb 33 x && leb x 126) ≡ true) where
  low : 33 ≤ x
  low = leb-true 33 x (and_left (leb 33 x) (leb x 126) h)

  solid_newline : eqb x 10 ≡ false
  solid_newline = let l = low in ne_eqb x 10 (λ e. omega arith)

  solid_span : is_span true x ≡ true
  solid_span =
      let l = low in
      rw (ne_eqb x 10 (λ e. omega arith), ne_eqb x 9 (λ e. omega arith), ne_eqb x 12 (λ e. omega arith), ne_eqb x 32 (λ e. omega arith))

  solid_legal : is_legal x ≡ true
  solid_legal =
      let l = low in
      rw (ne_eqb x 10 (λ e. omega arith), ne_eqb x 9 (λ e. omega arith), ne_eqb x 12 (λ e. omega arith), ne_eqb x 32 (λ e. omega arith), le-leb 32 x (omega arith))
      (and_right (leb 33 x) (leb x 126) h)

solid_first : (n r : List ℕ) → all_solid n ≡ true → eqb (get_or (n ++ (32 ∷ r)) 0 0) 10 ≡ false
unfolding all_solid
solid_first [] r h = refl
solid_first (x ∷ n) r h = solid_newline x (and_left (leb 33 x && leb x 126) (all_solid n) h)

solid_ends : (i : ℕ) (n r : List ℕ) → all_solid n ≡ true → span_from true true true i (n ++ (32 ∷ r)) ≡ scan (i + length n) true 0
unfolding all_solid span_from
solid_ends i [] r h = let q : i ≡ i + 0 = omega arith in ap (λ (e : ℕ). scan e true 0) q
solid_ends i (x ∷ n) r h =
    let a : (leb 33 x && leb x 126) ≡ true = and_left (leb 33 x && leb x 126) (all_solid n) h in
    let b : all_solid n ≡ true = and_right (leb 33 x && leb x 126) (all_solid n) h in
    let q : suc i + length n ≡ i + suc (length n) = omega arith in
    rw (solid_legal x a, solid_span x a, and_false (eqb x 92) (eqb (get_or (n ++ (32 ∷ r)) 0 0) 10) (solid_first n r b))
    (solid_ends (suc i) n r b ∙ ap (λ (e : ℕ). scan e true 0) q)

-- a token at p of the name n, which starts at i
abbrev pub word : ℕ → ℕ → ℕ → List ℕ → Token
word k p i n = record { kind = k; at = p; from = i; end = i + length n; bar = 0 }

-- a name written as an escaped one
pub escaped_reads : (s n r : List ℕ) (p : ℕ) → drop p s ≡ 92 ∷ (n ++ (32 ∷ r)) → fit_name n ≡ true → Reads s p (word Escaped p (p + 1) n)
unfolding token_at sign_token backslash_token span_end fit_name
escaped_reads s n r p e h =
    let a : is_short n ≡ true = and_left (is_short n) (all_solid n && not (is_directive n)) h in
    let v : all_solid n ≡ true = and_left (all_solid n) (not (is_directive n)) (and_right (is_short n) (all_solid n && not (is_directive n)) h) in
    let g : 0 < length n = ltb-true 0 (length n) (and_left (ltb 0 (length n)) (leb (length n) 1024) a) in
    let l : length n ≤ 1024 = leb-true (length n) 1024 (and_right (ltb 0 (length n)) (leb (length n) 1024) a) in
    let k : Stands s p 92 (n ++ (32 ∷ r)) = stands s p 92 (n ++ (32 ∷ r)) e in
    let f : eqb (get_or s (p + 1) 0) 10 ≡ false = ap (λ (b : ℕ). eqb b 10) (sym (head_at s (p + 1)) ∙ ap (λ (w : List ℕ). get_or w 0 0) k.rest) ∙ solid_first n r v in
    let q : p + 1 + length n - (p + 1) ≡ length n = omega arith in
    record {
      within = k.within;
      token = rw (lt-leb (length s) p k.within, k.byte, f, k.rest, solid_ends (p + 1) n r v, ne_eqb (p + 1 + length n) (p + 1) (λ e. omega arith), q, le-ltb 1024 (length n) l);
      free = refl;
      plain = refl;
    }

-- a plain name
run_ends : (i : ℕ) (n : List ℕ) (c : ℕ) (r : List ℕ) → all_run n ≡ true → is_run 36 c ≡ false → run_from 36 i (n ++ (c ∷ r)) ≡ i + length n
unfolding all_run run_from
run_ends i [] c r h k = rw k (omega arith)
run_ends i (x ∷ n) c r h k =
    let q : suc i + length n ≡ i + suc (length n) = omega arith in
    rw (and_left (is_run 36 x) (all_run n) h) (run_ends (suc i) n c r (and_right (is_run 36 x) (all_run n) h) k ∙ q)

start_white : (x : ℕ) → is_start x ≡ true → is_white x ≡ false
start_white x h = rw (apart 9 refl, apart 12 refl, apart 32 refl)
  where
    apart : (b : ℕ) → is_start b ≡ false → eqb x b ≡ false
    apart b e = ne_eqb x b (λ q. true_false (is_start b) (ap (λ (y : ℕ). is_start y) (sym q) ∙ h) e)

-- a formal's name
pub name_reads : (s n : List ℕ) (c : ℕ) (r : List ℕ) (p : ℕ) → drop p s ≡ n ++ (c ∷ r) → fit_formal n ≡ true → is_run 36 c ≡ false → Reads s p (word Name p p n)
unfolding token_at run_end fit_formal
name_reads s [] c r p e h k = true_false false (and_right (is_short []) false h) refl
name_reads s (x ∷ n) c r p e h k =
    let a : is_short (x ∷ n) ≡ true = and_left (is_short (x ∷ n)) (is_start x && all_run n) h in
    let b : (is_start x && all_run n) ≡ true = and_right (is_short (x ∷ n)) (is_start x && all_run n) h in
    let g : is_start x ≡ true = and_left (is_start x) (all_run n) b in
    let l : suc (length n) ≤ 1024 = leb-true (length (x ∷ n)) 1024 (and_right (ltb 0 (length (x ∷ n))) (leb (length (x ∷ n)) 1024) a) in
    let v : Stands s p x (n ++ (c ∷ r)) = stands s p x (n ++ (c ∷ r)) e in
    let q : p + 1 + length n ≡ p + suc (length n) = omega arith in
    let d : p + suc (length n) - p ≡ suc (length n) = omega arith in
    record {
      within = v.within;
      token = rw (lt-leb (length s) p v.within, v.byte, start_white x g, g, v.rest, run_ends (p + 1) n c r (and_right (is_start x) (all_run n) b) k, q, d, le-ltb 1024 (suc (length n)) l);
      free = refl;
      plain = refl;
    }
