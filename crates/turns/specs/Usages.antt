-- A usage in a file.
-- Assumes nothing.
use Rattle.std.specs.Prelude.{ℕ, ◌-◌, cond, eqb, ltb}
use Rattle.lex.specs.Tokens.{name_of}
use Rattle.expand.specs.Expanding.{Outer, Expansion, first, goes_on, expand}
use Rattle.turns.specs.States.{Made, Turn, more, stop, Here, behind, place_here, room_after}
use Rattle.turns.specs.Acts.{file_word, line_word}

abbrev pub outer_of : Here → Outer
outer_of h = record { file = file_word h; line = line_word h; place = place_here h }

-- 2 to 6 go with their token, 13 to 20 with the usage
abbrev pub usage_place : Here → Expansion → ℕ
usage_place h e = cond (ltb e.stop 7) e.place h.token.at

abbrev pub made_by : Expansion → Made
made_by e = record { text = e.text; count = e.count; depth = e.depth }

abbrev pub after_usage : Here → ℕ → Expansion → Turn
after_usage h next e =
    cond (eqb e.stop 0)
    (more
    (record {
      frames = behind h next;
      conds = h.state.conds;
      macros = h.state.macros;
      settings = h.state.settings;
      room = room_after h.state.room e.text;
      left = h.state.left - e.count;
    })
    (made_by e))
    (stop e.stop h.frame.file (usage_place h e) (made_by e))

-- where the file goes on behind the usage and its list
abbrev pub usage_end : Here → ℕ
usage_end h = goes_on h.body (first h.state.macros (name_of h.body h.token) h.body h.token.end)

abbrev pub expand_here : Here → Expansion
expand_here h =
    expand h.state.left (outer_of h) h.state.macros h.state.room (name_of h.body h.token) h.body h.token.end

-- "a usage in a file makes a pending list"
abbrev pub usage_turn : Here → Turn
usage_turn h = after_usage h (usage_end h) (expand_here h)
