-- A line of `follow`.
use Rattle.std.specs.Prelude.{ℕ, List, [], ◌∷◌, ◌++◌}
use Rattle.abstract_page.specs.Text.{decimal, word}
use Rattle.desk_follower.specs.Follower.{number_of, state_of, port_of, mw_of}
use Rattle.desk_follower.specs.declared.Follower.{Follower}
use Rattle.desk_report.specs.Text.{number, refused}
use Rattle.desk_report.specs.declared.line.Line.{Line}

-- what a line says of a follower: n, state, consumer port, its mW
unfoldable pub line_of : Follower → Line
line_of f =
    record {
      shown = number_of f.shown;
      state = state_of f;
      port = port_of f.shown;
      mw = mw_of f.shown;
    }

-- a space before each of them
abbrev pub spaced : List ℕ → List ℕ
spaced l = 32 ∷ l

-- PRG-3: ordinal, n, state, port, mW
unfoldable pub line_bytes : ℕ → Line → List ℕ
line_bytes k l =
    decimal k
    ++ (spaced (number l.shown)
    ++ (spaced (word l.state) ++ (spaced (number l.port) ++ (spaced (number l.mw) ++ (10 ∷ [])))))

-- PRG-4: `K refused N`
unfoldable pub refused_bytes : ℕ → ℕ → List ℕ
refused_bytes k n = decimal k ++ (refused ++ (decimal n ++ (10 ∷ [])))
