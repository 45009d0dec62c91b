-- Tokens that are copied or skipped one after the other: where reading stands behind each, and what was written.
-- Assumes nothing.
use Prim.Native.Nat.{ℕ, ◌+◌, ◌-◌, ◌<◌, ◌≤◌, min}
use mathlib.Core.Bool.{Bool, true, false, cond, not, ◌&&◌, ◌||◌, and-false, or-true, or-false}
use mathlib.Core.List.{List, [], ◌∷◌, ◌++◌, append_assoc, append-nil}
use mathlib.Core.Path.{◌≡◌, refl, sym, ap, ◌∙◌}
use native.Mathlib.Nat.{add-zero}
use native.Mathlib.Omega.{arith}
use lib.Dec.{eqb, leb}
use lib.ListN.{length, get_or, drop, length-take, length-drop}
use borrow.Author.Tests.{ne_eqb, eqb-true, leb-true, leb-false, not-false}
use Rattle.text.specs.Bytes.{part}
use Rattle.lex.specs.Classes.{is_white}
use Rattle.lex.specs.Tokens.{White, Newline, LineComment, BlockComment, String, Grave, Byte, End, is, in_file, plain, token_at}
use Rattle.lex.specs.declared.Mode.{Mode}
use Rattle.lex.specs.declared.Token.{Token}
use Rattle.lex.proofs.Tests.{by_test, true_false}
use Rattle.lex.proofs.Progress.{token_past, token_ends, token_within, token-at}
use Rattle.places.specs.Places.{newlines}
use Rattle.places.proofs.Lines.{newlines_length}
use Rattle.places.proofs.Tokens.{token_flat, newline_token}
use Rattle.writing.specs.Written.{Written, placed, Room, fitted, put_in}
use Rattle.writing.specs.Buffers.{Writable, WroteBy}
use Rattle.writing.specs.declared.Spot.{Spot}
use Rattle.writing.specs.declared.Wrote.{Wrote}
use Rattle.writing.specs.declared.Wrote.TheVariants as wrote
use Rattle.writing.proofs.Laws.{puts_none, puts_append, puts_text, puts_map}
use Rattle.copying.specs.declared.Cursor.{Cursor}
use Rattle.copying.specs.declared.Copied.TheVariants as copied
use Rattle.copying.specs.Cursors.{stops_at, is_gap_kind, is_single, may_wrap, lines_of, cursor_past}
use Rattle.copying.specs.Copying.{token_on, copy_of, Copies, Skips, Reads, Copyable, CopiesTo, CopiedBy, SkipsTo}
use Rattle.copying.proofs.Singles.{by_single, white_line, part_one}

-- ---- tests

or_left : (a b : Bool) → (a || b) ≡ false → a ≡ false
or_left true b e = e
or_left false b e = refl

or_right : (a b : Bool) → (a || b) ≡ false → b ≡ false
or_right true b e = true_false true refl e
or_right false b e = e

-- what holds of each kind of tokens that may hold a newline
by_kind : (P : ℕ → Type 0) → P Newline → P String → P BlockComment → (k : ℕ) → may_wrap k ≡ true → P k
by_kind P x y z k e = first (eqb k Newline) refl
  where
    third : (b : Bool) → eqb k BlockComment ≡ b → eqb k Newline ≡ false → eqb k String ≡ false → P k
    third true q n m = rw (eqb-true k BlockComment q) z
    third false q n m = true_false (may_wrap k) e (rw (n, m, q))

    second : (b : Bool) → eqb k String ≡ b → eqb k Newline ≡ false → P k
    second true q n = rw (eqb-true k String q) y
    second false q n = third (eqb k BlockComment) refl n q

    first : (b : Bool) → eqb k Newline ≡ b → P k
    first true q = rw (eqb-true k Newline q) x
    first false q = second (eqb k String) refl q

-- ---- a token that does not stop

module _ (s : List ℕ) (c : Cursor) where
  single_goes : {x : ℕ} → x ≡ get_or s c.at 0 → is_single x ≡ true → stops_at (token_on s c) ≡ false
  single_goes {x} q e = by_single (λ (t : Token). stops_at t ≡ false) s c.at x q e (λ w. refl) (λ n. refl) (λ w n. refl)

  module _ (g : stops_at (token_on s c) ≡ false) where
    goes_inside : c.at < length s
    goes_inside = go (leb (length s) c.at) refl
      where
        go : (b : Bool) → leb (length s) c.at ≡ b → c.at < length s
        go true e = true_false (stops_at (token_on s c)) (rw (token_past in_file s c.at (leb-true (length s) c.at e))) g
        go false e = leb-false (length s) c.at e

    goes_free : (token_on s c).bar ≡ 0
    goes_free = eqb-true _ 0 (not-false _ (or_right (is End (token_on s c)) _ (or_right (is Grave (token_on s c)) _ g)))

-- ---- where reading stands behind a token

cursor_is : {a a' l l' : ℕ} {o o' m m' : Bool} → a ≡ a' → l ≡ l' → o ≡ o' → m ≡ m'
    → ◌≡◌ {A = Cursor} (record { at = a; line = l; other = o; comment = m }) (record { at = a'; line = l'; other = o'; comment = m' })
cursor_is p q r t = rw (p, q, r, t)

-- by the token's kind, end and newlines
past_fields : (s : List ℕ) (b : Bool) (t : Token) (c : Cursor) (k e n : ℕ) → t.kind ≡ k → t.end ≡ e → lines_of s t ≡ n
    → cursor_past s b t c
    ≡ record { at = e; line = c.line + n; other = cond (eqb k Newline || (eqb k BlockComment && not (eqb n 0))) false (cond (is_gap_kind k) c.other true); comment = b && (eqb k LineComment && eqb e (length s)) }
unfolding cursor_past
past_fields s b t c k e n p q r = rw (r, p, q)

-- what `past_byte` gives
abbrev byte_behind : ℕ → Cursor → Cursor
byte_behind x c =
    cond (eqb x 10) (record { at = c.at + 1; line = c.line + 1; other = false; comment = false })
    (record { at = c.at + 1; line = c.line; other = c.other || not (is_white x); comment = false })

module _ (s : List ℕ) (b : Bool) (c : Cursor) (x : ℕ) (p : x ≡ get_or s c.at 0) (e : is_single x ≡ true) where
  single_inside : c.at < length s
  single_inside = goes_inside s c (single_goes s c p e)

  -- the token is of kind k and holds n newlines
  kind_past : (k n : ℕ) → token_on s c ≡ plain k c.at (c.at + 1) 0 → newlines (part s c.at (token_on s c).end) ≡ n
      → cursor_past s b (token_on s c) c
      ≡ record { at = c.at + 1; line = c.line + n; other = cond (eqb k Newline || (eqb k BlockComment && not (eqb n 0))) false (cond (is_gap_kind k) c.other true); comment = b && (eqb k LineComment && eqb (c.at + 1) (length s)) }
  kind_past k n q l =
      past_fields s b (token_on s c) c k (c.at + 1) n (rw q) (rw q) (ap (λ (i : ℕ). newlines (part s i (token_on s c).end)) (token-at in_file s c.at) ∙ l)

  single_past : cursor_past s b (token_on s c) c ≡ byte_behind x c
  single_past =
      by_single (λ (t : Token). token_on s c ≡ t → cursor_past s b (token_on s c) c ≡ byte_behind x c) s c.at x p e
      (λ w q. kind_past White 0 q (token_flat s c.at single_inside (rw q) (rw q) (rw q) (rw q)) ∙ cursor_is refl (add-zero c.line) (sym (or-false c.other)) (and-false b) ∙ white w)
      (λ n q. kind_past Newline 1 q (newline_token s c.at single_inside (rw q)) ∙ cursor_is refl refl refl (and-false b) ∙ rw n)
      (λ w n q. kind_past Byte 0 q (token_flat s c.at single_inside (rw q) (rw q) (rw q) (rw q)) ∙ cursor_is refl (add-zero c.line) (sym (or-true c.other)) (and-false b) ∙ rw (n, w))
      refl
    where
      white : is_white x ≡ true → record { at = c.at + 1; line = c.line; other = c.other || false; comment = false } ≡ byte_behind x c
      white w = rw (white_line x w, w)

-- what `past_token` gives: for the token t of the bytes w
abbrev behind : Token → List ℕ → ℕ → Cursor → Cursor
behind t w last c =
    cond (may_wrap t.kind) (record { at = t.end; line = c.line + newlines w; other = eqb t.kind String || (c.other && eqb (newlines w) 0); comment = false })
    (record { at = t.end; line = c.line; other = c.other || not (is_gap_kind t.kind); comment = eqb t.kind LineComment && eqb t.end last })

-- other text behind a token that may hold a newline
wraps_other : (o : Bool) (n k : ℕ) → (k ≡ Newline → n ≡ 1) → may_wrap k ≡ true
    → (eqb k String || (o && eqb n 0)) ≡ cond (eqb k Newline || (eqb k BlockComment && not (eqb n 0))) false (cond (is_gap_kind k) o true)
wraps_other o n k f e =
    by_kind (λ (k : ℕ). (k ≡ Newline → n ≡ 1) → (eqb k String || (o && eqb n 0)) ≡ cond (eqb k Newline || (eqb k BlockComment && not (eqb n 0))) false (cond (is_gap_kind k) o true))
    (λ f. rw (f refl) (and-false o))
    (λ f. refl)
    (λ f. block o (eqb n 0))
    k e f
  where
    block : (o b : Bool) → (o && b) ≡ cond (not b) false o
    block true true = refl
    block true false = refl
    block false true = refl
    block false false = refl

flat_other : (o g : Bool) → (o || not g) ≡ cond g o true
flat_other true true = refl
flat_other true false = refl
flat_other false true = refl
flat_other false false = refl

no_comment : (b : Bool) (k e n : ℕ) → may_wrap k ≡ true → (b && (eqb k LineComment && eqb e n)) ≡ false
no_comment b k e n h = by_kind (λ (k : ℕ). (b && (eqb k LineComment && eqb e n)) ≡ false) (and-false b) (and-false b) (and-false b) k h

-- a token of the other kinds holds no newline
flat_lines : (s : List ℕ) (c : Cursor) → stops_at (token_on s c) ≡ false → may_wrap (token_on s c).kind ≡ false → newlines (part s c.at (token_on s c).end) ≡ 0
flat_lines s c g w =
    let k : ℕ = (token_on s c).kind in
    let v : (eqb k String || eqb k BlockComment) ≡ false = or_right (eqb k Newline) _ w in
    token_flat s c.at (goes_inside s c g) (goes_free s c g) (or_left (eqb k Newline) _ w) (or_left (eqb k String) _ v) (or_right (eqb k String) _ v)

module _ (s : List ℕ) (b : Bool) (last : ℕ) (c : Cursor) (g : stops_at (token_on s c) ≡ false)
    (ends : (b && (eqb (token_on s c).kind LineComment && eqb (token_on s c).end (length s))) ≡ (eqb (token_on s c).kind LineComment && eqb (token_on s c).end last)) where
  behind_past : behind (token_on s c) (part s c.at (token_on s c).end) last c ≡ cursor_past s b (token_on s c) c
  behind_past =
      let t : Token = token_on s c in
      let n : ℕ = newlines (part s c.at t.end) in
      let h : c.at < length s = goes_inside s c g in
      let l : lines_of s t ≡ n = ap (λ (i : ℕ). newlines (part s i t.end)) (token-at in_file s c.at) in
      let p = sym (past_fields s b t c t.kind t.end n refl refl l) in
      by_test (λ (r : Cursor). r ≡ cursor_past s b (token_on s c) c) (may_wrap t.kind)
      (λ w. cursor_is refl refl (wraps_other c.other n t.kind (λ k. newline_token s c.at h k) w) (sym (no_comment b t.kind t.end (length s) w)) ∙ p)
      (λ w.
      let k1 : eqb t.kind Newline ≡ false = or_left (eqb t.kind Newline) _ w in
      let k3 : eqb t.kind BlockComment ≡ false = or_right (eqb t.kind String) _ (or_right (eqb t.kind Newline) _ w) in
      let z : n ≡ 0 = flat_lines s c g w in
      cursor_is refl (sym (ap (λ (m : ℕ). c.line + m) z ∙ add-zero c.line)) (flat_other c.other (is_gap_kind t.kind) ∙ simp (k1, k3)) (sym ends) ∙ p)

behind_copied : (s : List ℕ) (c : Cursor) → stops_at (token_on s c) ≡ false
    → behind (token_on s c) (part s c.at (token_on s c).end) (length s) c ≡ cursor_past s true (token_on s c) c
behind_copied s c g = behind_past s true (length s) c g refl

behind_skipped : (s : List ℕ) (c : Cursor) → stops_at (token_on s c) ≡ false
    → behind (token_on s c) (part s c.at (token_on s c).end) 0 c ≡ cursor_past s false (token_on s c) c
behind_skipped s c g =
    let h : c.at < length s = goes_inside s c g in
    let e : c.at < (token_on s c).end = token_ends in_file s c.at h in
    behind_past s false 0 c g (sym (ap (λ (x : Bool). eqb (token_on s c).kind LineComment && x) (ne_eqb (token_on s c).end 0 (λ q. omega arith)) ∙ and-false (eqb (token_on s c).kind LineComment)))

-- ---- tokens that are skipped

reads_past : {s : List ℕ} {base : ℕ} {c : Cursor} → Reads s base c → stops_at (token_on s c) ≡ false → (b : Bool) → Reads s base (cursor_past s b (token_on s c) c)
unfolding cursor_past
reads_past {s} {base} {c} r g b =
    let h : c.at < length s = goes_inside s c g in
    let e : c.at < (token_on s c).end = token_ends in_file s c.at h in
    let w : List ℕ = part s (token_on s c).at (token_on s c).end in
    record {
      small = r.small;
      place_small = r.place_small;
      inside = token_within in_file s c.at h;
      line_small = omega (arith, r.line_small, newlines_length w, length-take ((token_on s c).end - (token_on s c).at) (drop (token_on s c).at s), token-at in_file s c.at);
    }

skips_snoc : {s : List ℕ} {c c₁ : Cursor} → Skips s c c₁ → stops_at (token_on s c₁) ≡ false → Skips s c (cursor_past s false (token_on s c₁) c₁)
skips_snoc Skips.none g = Skips.more g Skips.none
skips_snoc (Skips.more h k) g = Skips.more h (skips_snoc k g)

-- ---- tokens that are copied

copies_snoc : {s : List ℕ} {base : ℕ} {c c₁ : Cursor} {r r₁ r₂ : Room} {ws : List Written} → Copies s base c r ws c₁ r₁ → stops_at (token_on s c₁) ≡ false
    → put_in r₁ (copy_of s base c₁) ≡ fitted r₂ → Copies s base c r (ws ++ copy_of s base c₁) (cursor_past s true (token_on s c₁) c₁) r₂
copies_snoc {s} {base} {c} Copies.none g p = rw (append-nil (copy_of s base c)) at (Copies.more g p Copies.none)
copies_snoc (Copies.more h q k) g p = rw append_assoc (Copies.more h q (copies_snoc k g p))

-- what a byte that is a token of its own writes
copy_byte : (s : List ℕ) (base : ℕ) (c : Cursor) (b : ℕ) → b ≡ get_or s c.at 0 → is_single b ≡ true
    → copy_of s base c ≡ placed 1 (base + c.line) (b ∷ [])
unfolding copy_of
copy_byte s base c b q e =
    let h : c.at < length s = goes_inside s c (single_goes s c q e) in
    let n : (token_on s c).end ≡ c.at + 1 = by_single (λ (t : Token). t.end ≡ c.at + 1) s c.at b q e (λ w. refl) (λ l. refl) (λ w l. refl) in
    rw (n, part_one s c.at h, q)

-- nothing is copied yet
pub copied_none : {s : List ℕ} {base : ℕ} {text map : List ℕ} {c : Cursor} {z : Spot} → Copyable s base text map c z
    → CopiesTo s base text text map map c c z z
copied_none {text = text} {map} {z = z} h = record { written = []; copies = Copies.none; puts = puts_none text map z; copyable = h }

module _ {s : List ℕ} {base : ℕ} {text₀ text map₀ map : List ℕ} {c₀ c : Cursor} {z₀ z : Spot} (k : CopiesTo s base text₀ text map₀ map c₀ c z₀ z)
    (g : stops_at (token_on s c) ≡ false) where
  -- one more token, written whole
  copied_next : {text' map' : List ℕ} {z' : Spot} → WroteBy (wrote.Upto z') (copy_of s base c) text text' map map' z
      → CopiesTo s base text₀ text' map₀ map' c₀ (cursor_past s true (token_on s c) c) z₀ z'
  copied_next {text'} {map'} {z'} w =
      let lt : length text ≡ length text₀ = puts_text k.puts in
      let lm : length map ≡ length map₀ = puts_map k.puts in
      let lt' : length text' ≡ length text = puts_text w.0 in
      let lm' : length map' ≡ length map = puts_map w.0 in
      record {
        written = k.written ++ copy_of s base c;
        copies = copies_snoc k.copies g (rw (lt, lm) at w.1);
        puts = puts_append k.puts w.0;
        copyable = record { reads = reads_past k.copyable.reads g true; in_text = omega (arith, w.2); in_map = omega (arith, w.3) };
      }

  -- one that has no room
  copied_out : {text' map' : List ℕ} {n : ℕ} → WroteBy (wrote.Full n) (copy_of s base c) text text' map map' z
      → CopiedBy (copied.Full c z n) s base text₀ text' map₀ map' c₀ z₀
  copied_out {text'} {map'} {n} w =
      let lt : length text ≡ length text₀ = puts_text k.puts in
      let lm : length map ≡ length map₀ = puts_map k.puts in
      (rw (w.1, w.2) k, g, rw (lt, lm) at w.0)

-- ---- a turn, by what the code knows

-- reading moves past a token that does not stop, which is copied or skipped
pub record Moves (s : List ℕ) (b : Bool) (c c' : Cursor) : Type 0 where
  pub goes : stops_at (token_on s c) ≡ false
  pub lands : c' ≡ cursor_past s b (token_on s c) c

module _ {s : List ℕ} {c c' : Cursor} where
  pub moves_byte : {x : ℕ} {w : Bool} (b : Bool) → x ≡ get_or s c.at 0 → w ≡ is_single x → w ≡ true → c' ≡ byte_behind x c → Moves s b c c'
  moves_byte {x} b p q e r =
      let h : is_single x ≡ true = sym q ∙ e in
      record { goes = single_goes s c p h; lands = r ∙ sym (single_past s b c x p h) }

  module _ {m : Mode} {t : Token} {w : List ℕ} {x : Bool} (p : m ≡ in_file) (q : t ≡ token_at m s c.at) (y : x ≡ stops_at t) (n : x ≡ false)
      (e : w ≡ part s c.at t.end) where
    pub moves_skipped : c' ≡ behind t w 0 c → Moves s false c c'
    moves_skipped r =
        let k : t ≡ token_on s c = rw p at q in
        let g : stops_at (token_on s c) ≡ false = rw k at (sym y ∙ n) in
        record { goes = g; lands = r ∙ rw (e, k) (behind_skipped s c g) }

    pub moves_copied : c' ≡ behind t w (length s) c → Moves s true c c'
    moves_copied r =
        let k : t ≡ token_on s c = rw p at q in
        let g : stops_at (token_on s c) ≡ false = rw k at (sym y ∙ n) in
        record { goes = g; lands = r ∙ rw (e, k) (behind_copied s c g) }

  pub moves_less : {b : Bool} → Moves s b c c' → length s - c'.at < length s - c.at
  unfolding cursor_past
  moves_less {b} m =
      let h : c.at < length s = goes_inside s c m.goes in
      let e : c.at < (token_on s c).end = token_ends in_file s c.at h in
      let q : c'.at ≡ (token_on s c).end = ap (λ (x : Cursor). x.at) m.lands in
      omega arith

-- the tokens from one cursor to the other are skipped
pub record Gone (s : List ℕ) (c c' : Cursor) : Type 0 where
  pub skips : Skips s c c'
  pub reads : Reads s 0 c'

pub gone_none : {s : List ℕ} {c : Cursor} → Reads s 0 c → Gone s c c
gone_none h = record { skips = Skips.none; reads = h }

pub gone_next : {s : List ℕ} {c₀ c c' : Cursor} → Gone s c₀ c → Moves s false c c' → Gone s c₀ c'
gone_next g m = rw m.lands (record { skips = skips_snoc g.skips m.goes; reads = reads_past g.reads m.goes false })

-- up to a token that is not skipped
pub gone_upto : {s : List ℕ} {c₀ c : Cursor} {m : Mode} {t : Token} {x : Bool} → Gone s c₀ c → m ≡ in_file → t ≡ token_at m s c.at → x ≡ stops_at t → x ≡ true
    → SkipsTo s 0 c₀ (record { cursor = c; token = t })
gone_upto g p q y e = record { skips = g.skips; reads = g.reads; token_is = rw p at q; stops = sym y ∙ e }

-- ---- what the calls of a turn ask

module _ {s : List ℕ} {base : ℕ} {c : Cursor} (r : Reads s base c) where
  pub byte_small : {x : ℕ} {w : Bool} → x ≡ get_or s c.at 0 → w ≡ is_single x → w ≡ true → c.at < 65535
  byte_small {x} {w} p q e =
      let h : c.at < length s = goes_inside s c (single_goes s c p (sym q ∙ e)) in
      omega (arith, r.small)

  pub line_fits : c.line ≤ 65536
  line_fits = omega (arith, r.small, r.inside, r.line_small)

  pub part_small : {w : List ℕ} (e : ℕ) → w ≡ part s c.at e → length w ≤ 65535
  part_small {w} e q = omega (arith, r.small, ap length q, length-take (e - c.at) (drop c.at s), length-drop c.at s)

-- ---- a turn that copies

module _ {s : List ℕ} {base : ℕ} {text₀ text map₀ map : List ℕ} {c₀ c : Cursor} {z₀ z : Spot} (k : CopiesTo s base text₀ text map₀ map c₀ c z₀ z) where
  pub byte_writable : {x : ℕ} → Writable (x ∷ []) (base + c.line) 0 text map z
  byte_writable =
      let r = k.copyable.reads in
      record { in_text = k.copyable.in_text; in_map = k.copyable.in_map; in_place = omega (arith, line_fits r, r.place_small) }

  module _ {x : ℕ} {w : Bool} (p : x ≡ get_or s c.at 0) (q : w ≡ is_single x) (e : w ≡ true) where
    wrote_byte : (o : Wrote) (text' map' : List ℕ) → ((step : ℕ) → WroteBy o (placed step (base + c.line) (x ∷ [])) text text' map map' z)
        → WroteBy o (copy_of s base c) text text' map map' z
    wrote_byte o text' map' h = rw (copy_byte s base c x p (sym q ∙ e)) (h 1)

    module _ {o : Wrote} {text' map' : List ℕ} (h : (step : ℕ) → WroteBy o (placed step (base + c.line) (x ∷ [])) text text' map map' z) where
      pub copied_byte : {z' : Spot} {c' : Cursor} → o ≡ wrote.Upto z' → Moves s true c c' → CopiesTo s base text₀ text' map₀ map' c₀ c' z₀ z'
      copied_byte y m = rw m.lands (copied_next k m.goes (rw y at (wrote_byte o text' map' h)))

      pub full_byte : {n : ℕ} → o ≡ wrote.Full n → CopiedBy (copied.Full c z n) s base text₀ text' map₀ map' c₀ z₀
      full_byte y = copied_out k (single_goes s c p (sym q ∙ e)) (rw y at (wrote_byte o text' map' h))

  module _ {m : Mode} {t : Token} {x : Bool} (p : m ≡ in_file) (q : t ≡ token_at m s c.at) (y : x ≡ stops_at t) where
    pub copied_upto : x ≡ true → CopiedBy (copied.Upto c z t) s base text₀ text map₀ map c₀ z₀
    copied_upto e = (k, rw p at q, sym y ∙ e)

    module _ {w : List ℕ} (n : x ≡ false) (e : w ≡ part s c.at t.end) where
      token_is : t ≡ token_on s c
      token_is = rw p at q

      token_goes : stops_at (token_on s c) ≡ false
      token_goes = rw token_is at (sym y ∙ n)

      copy_token : copy_of s base c ≡ placed 1 (base + c.line) w
      unfolding copy_of
      copy_token = rw (e, token_is)

      pub token_writable : Writable w (base + c.line) 1 text map z × (0 < length w) × (may_wrap t.kind ≡ false → newlines w ≡ 0)
      token_writable =
          let r = k.copyable.reads in
          let h : c.at < length s = goes_inside s c token_goes in
          let f : c.at < t.end = rw token_is (token_ends in_file s c.at h) in
          let l : length w ≡ min (t.end - c.at) (length (drop c.at s)) = ap length e ∙ length-take (t.end - c.at) (drop c.at s) in (
            record { in_text = k.copyable.in_text; in_map = k.copyable.in_map; in_place = omega (arith, line_fits r, r.place_small, part_small r t.end e) },
            omega (arith, length-drop c.at s),
            λ v. rw (e, token_is) (flat_lines s c token_goes (rw token_is at v)),
          )

      wrote_token : (o : Wrote) (text' map' : List ℕ) → WroteBy o (placed 1 (base + c.line) w) text text' map map' z
          → WroteBy o (copy_of s base c) text text' map map' z
      wrote_token o text' map' h = rw copy_token h

      module _ {o : Wrote} {text' map' : List ℕ} (h : WroteBy o (placed 1 (base + c.line) w) text text' map map' z) where
        pub copied_token : {z' : Spot} {c' : Cursor} → o ≡ wrote.Upto z' → Moves s true c c' → CopiesTo s base text₀ text' map₀ map' c₀ c' z₀ z'
        copied_token u v = rw v.lands (copied_next k token_goes (rw u at (wrote_token o text' map' h)))

        pub full_token : {i : ℕ} → o ≡ wrote.Full i → CopiedBy (copied.Full c z i) s base text₀ text' map₀ map' c₀ z₀
        full_token u = copied_out k token_goes (rw u at (wrote_token o text' map' h))
