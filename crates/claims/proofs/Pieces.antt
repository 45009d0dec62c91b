-- The text of a run is made of pieces alone.
-- Assumes nothing.
use Prim.Native.Nat.{ℕ}
use mathlib.Core.Bool.{true, false}
use mathlib.Core.List.{List, [], ◌∷◌, ◌++◌, append-nil, append_assoc}
use mathlib.Core.Path.{◌≡◌, refl, sym, ap, subst}
use lib.Dec.{eqb}
use lib.ListN.{length}
use borrow.Author.Tests.{eqb-true}
use Rattle.text.specs.Bytes.{part}
use Rattle.lex.specs.Tokens.{in_file, LineComment, End, is, name_of}
use Rattle.lex.specs.declared.Token.{Token}
use Rattle.lex.proofs.Tests.{by_test, and_left, and_right, true_false}
use Rattle.lex.proofs.Progress.{token_some}
use Rattle.names.specs.Names.{Define}
use Rattle.definition.specs.Definitions.{Macro, good, definition_at}
use Rattle.store.specs.Stores.{define, fits}
use Rattle.settings.specs.declared.Settings.{Settings}
use Rattle.writing.specs.Written.{Written}
use Rattle.places.specs.Places.{decimal, place_of, quoted}
use Rattle.copying.specs.Cursors.{opening, cursor_past, cursor_behind}
use Rattle.expand.specs.Expanding.{Outer, expand}
use Rattle.handover.specs.Entries.{name_of as entryNamed}
use Rattle.handover.specs.Sizes.{HandOver, Rooms, is_sound}
use Rattle.macros.proofs.Each.{Each, each_none, each_with}
use Rattle.turns.specs.States.{Context, Frame, State, Turn, more, stop, finished, Here, frames_at, behind, write}
use Rattle.turns.specs.States as states
use Rattle.turns.specs.Acts.{Act}
use Rattle.turns.specs.Asking.{Named, Remain, all_but, no_more, Spelled, file_name, line_number, Asks, to_refuse, to_leave, to_copy, to_skip, to_hide, to_branch, to_define, to_undefine, to_include, to_keep, to_spell, to_expand}
use Rattle.turns.specs.Usages.{outer_of, usage_end, expand_here}
use Rattle.turns.specs.Performing.{perform}
use Rattle.turns.specs.Turns.{here_at, turn_at}
use Rattle.turns.specs.Runs.{context_of, start_of, Outcome, flattened}
use Rattle.turns.proofs.Turning.{by_turn, by_write}
use Rattle.turns.proofs.Asking.{act_asks}
use Rattle.turns.proofs.Lines.{Reads, Framed, turn_framed, start_framed}
use Rattle.turns.specs.Files.{file_of, token_in, Read}
use Rattle.claims.specs.Pieces.{outer_at, directive, file_word, line_word, Piece, copied, kept, newline, word, Pieces, then}
use Rattle.claims.specs.Pieces as pieces
use Rattle.claims.specs.Stretches.{written_by, OpenFile, Acted, Told, start, stretch, leaving}
use Rattle.claims.specs.NothingDropped.{Begun, nothing, begun, Ends, at_end, refused}
use Rattle.turns.proofs.Taken.{taken}
use Rattle.turns.proofs.Files.{read_here, accented_here}
use Rattle.claims.proofs.NothingDropped.{joined}
use Rattle.claims.proofs.PiecesMacros.{Known, defined, AllKnown, known_define, known_undefine, known_started}
use Rattle.claims.proofs.PiecesExpanding.{Made, expand_made}

-- one piece
one : (x : Context) (b : List ℕ) → Piece x b → Pieces x b
one x b h = subst (Pieces x) (append-nil b) (then h pieces.none)

-- pieces behind pieces
pieces_append : (x : Context) (b bs : List ℕ) → Pieces x b → Pieces x bs → Pieces x (b ++ bs)
pieces_append x b bs pieces.none g = g
pieces_append x b bs (then {b = c} {bs = cs} h k) g = rw (append_assoc c cs bs) (then h (pieces_append x cs bs k g))

-- ---- what every state of a run keeps

-- a `//` comment at the end of file i
record Comment (x : Context) (i : ℕ) : Type 0 where
  at : ℕ
  read : Read x i at
  comment : is LineComment (token_in x i at) ≡ true
  last : (token_in x i at).end ≡ length (file_of x i)

-- a frame behind a copied `//` comment at its file's end
Ended : Context → Frame → Type 0
Ended x f = f.cursor.comment ≡ true → Comment x f.file

record Stands (x : Context) (s : State) : Type 0 where
  framed : Framed x s.frames
  ended : Each (Ended x) s.frames
  known : AllKnown x s.macros

-- a turn keeps it
Keeps : Context → Turn → Type 0
Keeps x (more s m) = Each (Ended x) s.frames × AllKnown x s.macros
Keeps x (stop n f p m) = Unit {0}
Keeps x finished = Unit {0}

opening_ended : (x : Context) (i : ℕ) → Ended x (record { file = i; cursor = opening })
unfolding Ended
opening_ended x i e = true_false false e refl

-- a token that is read is not the end
pub read_some : (x : Context) (i p : ℕ) → Read x i p → is End (token_in x i p) ≡ false
read_some x i p r = token_some in_file (file_of x i) p r.inside

-- ---- a turn in the file f

module _ (x : Context) (s : State) (f : Frame) (fs : List Frame) (r : Reads x f) (c : Ended x f) (cs : Each (Ended x) fs) (k : AllKnown x s.macros) where
  abbrev here : Here
  here = here_at x s f fs

  abbrev body : List ℕ
  body = file_of x f.file

  abbrev token : Token
  token = token_in x f.file f.cursor.at

  -- the frames behind a token, directive or usage

  behind_ended : (e : ℕ) → Each (Ended x) (behind here e)
  unfolding Each Ended cursor_behind
  behind_ended e = (λ q. true_false false q refl, cs)

  skip_ended : Each (Ended x) (frames_at here (cursor_past body false token f.cursor))
  unfolding Each Ended cursor_past
  skip_ended = (λ q. true_false false q refl, cs)

  copy_ended : Read x f.file f.cursor.at → Each (Ended x) (frames_at here (cursor_past body true token f.cursor))
  unfolding Each Ended cursor_past
  copy_ended h = (
    λ q. record {
      at = f.cursor.at;
      read = h;
      comment = and_left (is LineComment token) (eqb token.end (length body)) q;
      last = eqb-true token.end (length body) (and_right (is LineComment token) (eqb token.end (length body)) q);
    },
    cs,
  )

  -- what the reasons give

  newline_piece : Comment x f.file → Piece x (10 ∷ [])
  newline_piece h = newline f.file h.at h.read h.comment h.last

  defined_known : (m : Macro) (e : ℕ) → Named here Define → definition_at body token.end ≡ good m e → AllKnown x (define m s.macros)
  defined_known m e a q =
      known_define x m s.macros (defined (record { file = f.file; at = f.cursor.at; end = e; accented = accented_here x s f fs r a; gives = q })) k

  left_known : (e : ℕ) (ms : List Macro) → Remain here e ms → AllKnown x ms
  left_known e ms (all_but p a q) = known_undefine x (part body p e) s.macros k
  left_known e ms (no_more a) = each_none (Known x)

  spelled_piece : (w : List ℕ) → Spelled here w → Piece x w
  spelled_piece w (file_name a) = word (file_word f.file f.cursor.at (accented_here x s f fs r a))
  spelled_piece w (line_number a) =
      subst (λ (l : ℕ). Piece x (decimal 6 l)) (sym r.line_is) (word (line_word f.file f.cursor.at (accented_here x s f fs r a)))

  outer_is : outer_at x f.file f.cursor.at ≡ outer_of here
  outer_is =
      ap
      (λ (l : ℕ). record { file = quoted (entryNamed x.store x.table f.file); line = decimal 6 l; place = place_of f.file l })
      (sym r.line_is)

  expand_pieces : Named here 0 → Made x (expand_here here).text
  expand_pieces a =
      subst (λ (o : Outer). Made x (expand s.left o s.macros s.room (name_of body token) body token.end).text) outer_is
      (expand_made x f.file f.cursor.at (accented_here x s f fs r a) s.macros k s.left s.room (name_of body token) token.end)

  -- the acts

  write_keeps : (ws : List Written) (gs : List Frame) (b : Settings) → Each (Ended x) gs → Keeps x (write here ws gs b)
  unfolding Keeps
  write_keeps ws gs b h = by_write here (Keeps x) ws gs b (λ n e. tt) (λ m e. (h, k))

  act_keeps : {a : Act} → Asks here a → Keeps x (perform here a)
  unfolding Keeps Ended
  act_keeps (to_refuse w) = tt
  act_keeps (to_leave b e) = by_test (Keeps x) f.cursor.comment (λ q. write_keeps _ fs _ cs) (λ q. (cs, k))
  act_keeps (to_copy a t g) = write_keeps _ _ _ (copy_ended (read_here x s f fs r a))
  act_keeps (to_skip a t) = (skip_ended, k)
  act_keeps (to_hide {e} a t d i) = (behind_ended e, k)
  act_keeps (to_branch {d} {e} {cs} a o i) = (behind_ended e, k)
  act_keeps (to_define {m} {e} a t q i) =
      by_test (Keeps x) (fits x.records x.bytes (define m s.macros)) (λ g. (behind_ended e, defined_known m e a q)) (λ g. tt)
  act_keeps (to_undefine {ms} {e} a t l i) = (behind_ended e, left_known e ms l)
  act_keeps (to_include {i} {e} a t n z) =
      (each_with (Ended x) (record { file = i; cursor = opening }) (behind here e) (opening_ended x i) (behind_ended e), k)
  act_keeps (to_keep {v} {e} d a t q h i) = write_keeps _ _ _ (behind_ended e)
  act_keeps (to_spell a t h) = write_keeps _ _ _ (behind_ended token.end)
  act_keeps (to_expand a t) = by_test (Keeps x) (eqb (expand_here here).stop 0) (λ e. (behind_ended (usage_end here), k)) (λ e. tt)

  -- what they write
  act_pieces : {a : Act} → Asks here a → Pieces x (written_by here a)
  unfolding Ended
  act_pieces (to_refuse w) = pieces.none
  act_pieces (to_leave b e) = by_test (Pieces x) f.cursor.comment (λ q. one x (10 ∷ []) (newline_piece (c q))) (λ q. pieces.none)
  act_pieces (to_copy a t g) = one x _ (copied f.file f.cursor.at (read_here x s f fs r a) g)
  act_pieces (to_skip a t) = pieces.none
  act_pieces (to_hide a t d i) = pieces.none
  act_pieces (to_branch a o i) = pieces.none
  act_pieces (to_define a t q i) = pieces.none
  act_pieces (to_undefine a t l i) = pieces.none
  act_pieces (to_include a t n z) = pieces.none
  act_pieces (to_keep {v} {e} d a t q h i) = one x _ (kept (directive f.file f.cursor.at d e v (accented_here x s f fs r a) q h))
  act_pieces (to_spell {w} a t h) = one x w (spelled_piece w h)
  act_pieces (to_expand a t) = expand_pieces a

-- ---- a run

module _ (x : Context) where
  turn_keeps : (s : State) → Stands x s → Keeps x (turn_at x s)
  unfolding Keeps Framed Each
  turn_keeps s h =
      by_turn x s (Keeps x) (λ q e. tt) (λ c cs e. tt)
      (λ f fs q. let g : Framed x (f ∷ fs) = subst (Framed x) q h.framed in
      let c : Each (Ended x) (f ∷ fs) = subst (Each (Ended x)) q h.ended in
      act_keeps x s f fs g.0 c.0 c.1 h.known (act_asks x s f fs))

  turn_stands : (s s' : State) (m : states.Made) → Stands x s → turn_at x s ≡ more s' m → Stands x s'
  unfolding Keeps
  turn_stands s s' m h e =
      let k : Keeps x (more s' m) = subst (Keeps x) e (turn_keeps s h) in
      record { framed = turn_framed x s s' m e h.framed; ended = k.0; known = k.1 }

  -- the act of a state writes pieces
  here_pieces : (s : State) (f : Frame) (fs : List Frame) {a : Act} → s.frames ≡ f ∷ fs → Stands x s → Asks (here_at x s f fs) a
      → Pieces x (written_by (here_at x s f fs) a)
  unfolding Framed Each
  here_pieces s f fs q h w =
      let g : Framed x (f ∷ fs) = subst (Framed x) q h.framed in
      let c : Each (Ended x) (f ∷ fs) = subst (Each (Ended x)) q h.ended in
      act_pieces x s f fs g.0 c.0 c.1 h.known w

  acted_pieces : {i : OpenFile} {s s' : State} {w : List ℕ} → Stands x s → Acted x i s s' w → Pieces x w
  acted_pieces {i} {s} h k = subst (Pieces x) k.written (here_pieces s k.frame i.around k.frames_are h k.why)

  begun_pieces : {s : State} {w : List ℕ} → Stands x s → Begun x s w → Pieces x w
  begun_pieces h nothing = pieces.none
  begun_pieces {s} h (begun {f} {fs} q p) = here_pieces s f fs q h (subst (Asks (here_at x s f fs)) p (act_asks x s f fs))

  module _ (s₀ : State) (first : Stands x s₀) where
    told_stands : {s : State} {u : List ℕ} → Told x s₀ s u → Stands x s
    told_stands start = first
    told_stands (stretch {s = s} {s' = s'} t k) = turn_stands s s' k.acted.made (told_stands t) k.acted.goes
    told_stands (leaving {s = s} {s' = s'} t k) = turn_stands s s' k.acted.made (told_stands t) k.acted.goes

    told_pieces : {s : State} {u : List ℕ} → Told x s₀ s u → Pieces x u
    told_pieces start = pieces.none
    told_pieces (stretch t k) = pieces_append x _ _ (told_pieces t) (acted_pieces (told_stands t) k.acted)
    told_pieces (leaving t k) = pieces_append x _ _ (told_pieces t) (acted_pieces (told_stands t) k.acted)

    ends_pieces : {n f p : ℕ} {t : List ℕ} → Ends x s₀ n f p t → Pieces x t
    ends_pieces (at_end t p q) = told_pieces t
    ends_pieces (refused t k) = pieces_append x _ _ (told_pieces t) (begun_pieces (told_stands t) k.wrote)

start_stands : (h : HandOver) (r : Rooms) → is_sound h r ≡ true → Stands (context_of h r) (start_of h r)
start_stands h r e =
    let x = context_of h r in
    record {
      framed = start_framed h r e;
      ended = each_with (Ended x) (record { file = h.root; cursor = opening }) [] (opening_ended x h.root) (each_none (Ended x));
      known = known_started x h.store h.starts [] (each_none (Known x));
    }

-- the text of a hand-over is made of pieces alone
pub text_from_pieces : (h : HandOver) (r : Rooms) → Pieces (context_of h r) (flattened h r).text
unfolding flattened
text_from_pieces h r =
    let x = context_of h r in
    by_test (λ (o : Outcome). Pieces x o.text) (is_sound h r)
    (λ e. subst (λ (o : Outcome). Pieces x o.text) (taken h r e) (ends_pieces x (start_of h r) (start_stands h r e) (joined h r e))) (λ e. pieces.none)
