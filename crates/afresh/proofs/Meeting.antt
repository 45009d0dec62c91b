-- The tokens but escaped names and those of a grave accent: what is read of one byte by byte is what judging it has.
-- Assumes nothing.
use Prim.Native.Nat.{ℕ, ◌+◌, ◌-◌}
use mathlib.Core.Bool.{Bool, true, false, cond, ◌||◌}
use mathlib.Core.List.{List, [], ◌∷◌}
use mathlib.Core.Path.{◌≡◌, refl, sym, ◌∙◌}
use native.Mathlib.Nat.{le_refl}
use native.Mathlib.Omega.{arith}
use lib.Dec.{eqb, ltb}
use lib.ListN.{drop}
use Rattle.text.specs.Bytes.{holds, part}
use Rattle.text.proofs.Matching.{part_none}
use Rattle.lex.specs.Classes.{is_white, is_digit, is_start, is_legal}
use Rattle.lex.specs.Scans.{run_from, run_end}
use Rattle.lex.specs.Tokens.{White, Newline, Name, Number, Dollar, Byte, plain, named}
use Rattle.afresh.specs.States.{Start, Word, Run, Bad, single, sign, fresh, outside}
use Rattle.afresh.proofs.Sorts.{or_true, apart, run_legal}
use Rattle.afresh.proofs.Going.{Hold, marks_of, standing, bare, start, verdict, spoils, goes, bad_stays, barred, passed, clear}
use Rattle.afresh.proofs.Placing.{Reads}
use Rattle.afresh.proofs.Wording.{run_past, run_clean, run_reads, start_next, word_reads}
use Rattle.afresh.proofs.Telling.{told, told_bad, told_fit, rest_one, clean_first, told_byte, told_name}

module _ (w : List ℕ) (h : Hold) (i : ℕ) where
  module _ (x : ℕ) (xs : List ℕ) (d : drop i w ≡ x ∷ xs) where
    pub white_meets : is_white x ≡ true → verdict (start h) (x ∷ xs) ≡ told w h (plain White i (i + 1) 0)
    unfolding outside fresh holds
    white_meets e =
        let n : eqb x 96 ≡ false = apart is_white x 96 e refl in
        let l : is_legal x ≡ true = rw (e, or_true (eqb x 10)) in
        goes (start h) (start h) x xs (passed h Start false [] refl x (clear h x l n) ∙ rw e)
        ∙ sym (told_fit w h (plain White i (i + 1) 0) refl refl refl refl
        (λ t. clean_first w i x xs d n (i + 1) (omega arith) (rw (part_none w (i + 1) (i + 1) (le_refl (i + 1))))) ∙ rw (rest_one w i x xs d))

    -- a run from the next byte on
    abbrev ran : ℕ → ℕ
    ran more = run_from more (i + 1) xs

    run_ends : (more : ℕ) → run_end more w (i + 1) ≡ ran more
    unfolding run_end
    run_ends more = rw (rest_one w i x xs d)

    ran_clean : eqb x 96 ≡ false → holds 96 (part w i (ran 36)) ≡ false
    ran_clean n =
        let p = run_past 36 (i + 1) xs in
        clean_first w i x xs d n (ran 36) (omega arith) (run_clean w 36 refl (i + 1) xs (rest_one w i x xs d))

    -- a name that begins with x, in any state that begins it
    word_from : (g : Bool) → verdict (standing Word h g (x ∷ [])) xs ≡ (ltb 1024 (ran 36 - i) || (spoils g (part w i (ran 36)) || verdict (start h) (drop (ran 36) w)))
    word_from g =
        let r : Reads w i (i + 1) (x ∷ []) xs = record { here = rest_one w i x xs d; name = sym d; long = refl } in
        word_reads w h g i (i + 1) (x ∷ []) xs r (omega arith)

    pub start_meets : is_start x ≡ true → verdict (start h) (x ∷ xs) ≡ told w h (named Name i i (run_end 36 w (i + 1)) 0)
    start_meets e =
        goes (start h) (standing Word h false (x ∷ [])) x xs (start_next h x e)
        ∙ (word_from false ∙ rw (run_ends 36) (sym (told_name w i x xs d h (ran 36) (λ t. ran_clean (apart is_start x 96 e refl)))))

    run_goes : is_white x ≡ false → is_start x ≡ false → (is_digit x || eqb x 36) ≡ true → verdict (start h) (x ∷ xs) ≡ verdict (start h) (drop (ran 36) w)
    unfolding outside fresh
    run_goes v s e =
        let l : is_legal x ≡ true = run_legal 36 x refl (rw (s, e)) in
        goes (start h) (bare Run h) x xs (passed h Start false [] refl x (clear h x l (apart (λ b. is_digit b || eqb b 36) x 96 e refl)) ∙ rw (v, s, e))
        ∙ run_reads w h (i + 1) xs (rest_one w i x xs d)

    pub digit_meets : is_white x ≡ false → is_start x ≡ false → is_digit x ≡ true → verdict (start h) (x ∷ xs) ≡ told w h (plain Number i (run_end 36 w (i + 1)) 0)
    digit_meets v s e =
        run_goes v s (rw e)
        ∙ rw (run_ends 36) (sym (told_fit w h (plain Number i (ran 36) 0) refl refl refl refl (λ t. ran_clean (apart is_digit x 96 e refl))))

    pub dollar_meets : is_white x ≡ false → is_start x ≡ false → eqb x 36 ≡ true → verdict (start h) (x ∷ xs) ≡ told w h (plain Dollar i (run_end 36 w (i + 1)) 0)
    dollar_meets v s e =
        run_goes v s (rw e (or_true (is_digit x)))
        ∙ rw (run_ends 36) (sym (told_fit w h (plain Dollar i (ran 36) 0) refl refl refl refl (λ t. ran_clean (apart (λ b. eqb b 36) x 96 e refl))))

    -- any other byte
    pub byte_meets : is_white x ≡ false → is_start x ≡ false → is_digit x ≡ false → eqb x 10 ≡ false → eqb x 36 ≡ false → eqb x 34 ≡ false
        → eqb x 47 ≡ false → eqb x 92 ≡ false → eqb x 39 ≡ false → eqb x 96 ≡ false → (a : Bool) → is_legal x ≡ a
        → verdict (start h) (x ∷ xs) ≡ told w h (plain Byte i (i + 1) (cond a 0 2))
    unfolding outside fresh sign
    byte_meets e1 e2 e3 e4 e5 e6 e7 e8 e9 n true l =
        goes (start h) (single (start h) x) x xs (passed h Start false [] refl x (clear h x l n) ∙ rw (e1, e2, e3, e5, e4, e6, e9, n, e7, e8) (go (marks_of h)))
        ∙ sym (told_byte w i x xs d n h)
      where
        go : (b : Bool) → cond b (single (start h) x) (single (start h) x) ≡ single (start h) x
        go true = refl
        go false = refl
    byte_meets e1 e2 e3 e4 e5 e6 e7 e8 e9 n false l =
        goes (start h) (bare Bad h) x xs (barred h Start false [] refl x (rw l)) ∙ (bad_stays h xs ∙ sym (told_bad w h (plain Byte i (i + 1) 2) refl))

  module _ (xs : List ℕ) where
    -- a newline
    pub newline_meets : drop i w ≡ 10 ∷ xs → verdict (start h) (10 ∷ xs) ≡ told w h (plain Newline i (i + 1) 0)
    unfolding outside fresh holds
    newline_meets d = go (marks_of h) refl
      where
        go : (b : Bool) → marks_of h ≡ b → verdict (start h) (10 ∷ xs) ≡ told w h (plain Newline i (i + 1) 0)
        go true m =
            goes (start h) (bare Bad h) 10 xs (passed h Start false [] refl 10 (clear h 10 refl refl) ∙ rw m)
            ∙ (bad_stays h xs ∙ sym (told_bad w h (plain Newline i (i + 1) 0) (rw m)))
        go false m =
            goes (start h) (start h) 10 xs (passed h Start false [] refl 10 (clear h 10 refl refl) ∙ rw m)
            ∙ sym (told_fit w h (plain Newline i (i + 1) 0) (rw m) refl refl refl
            (λ t. clean_first w i 10 xs d refl (i + 1) (omega arith) (rw (part_none w (i + 1) (i + 1) (le_refl (i + 1))))) ∙ rw (rest_one w i 10 xs d))
