-- REF-3: a reading from the left: a refusal's number, or a value
-- and the rest of the bytes. What is met first is what is given.
use Rattle.std.specs.Prelude.{ℕ, Bool, cond, List, [], ◌∷◌, leb, drop, Result, Ok, Err}
use Rattle.wire.specs.Number.{read_number}

pub data Parsed (A : Type 0) : Type 0 where
  refused : ℕ → Parsed A
  parsed : A → List ℕ → Parsed A

abbrev pub Parser : Type 0 → Type 0
Parser A = List ℕ → Parsed A

-- the next reading takes the rest
abbrev pub then : {A B : Type 0} → Parsed A → (A → Parser B) → Parsed B
then (refused n) f = refused n
then (parsed a s) f = f a s

infixl 10 ◌>>=◌ ◌>>◌
abbrev pub ◌>>=◌ : {A B : Type 0} → Parser A → (A → Parser B) → Parser B
◌>>=◌ p f s = then (p s) f

abbrev pub ◌>>◌ : {A B : Type 0} → Parser A → Parser B → Parser B
◌>>◌ p q s = then (p s) (λ a. q)

abbrev pub done : {A : Type 0} → A → Parser A
done a s = parsed a s

-- REF-32: not as laid out
abbrev pub wrong : {A : Type 0} → Parser A
wrong s = refused 32

abbrev pub holds : Bool → Parser (Unit {0})
holds t s = cond t (parsed tt s) (refused 32)

-- REF-30: cut short
abbrev pub byte : Parser ℕ
byte [] = refused 30
byte (b ∷ s) = parsed b s

-- REF-33: left over
abbrev pub end : {A : Type 0} → A → Parser A
end a [] = parsed a []
end a (b ∷ s) = refused 33

-- PKT-7: a byte of at most so much
unfoldable pub field : ℕ → Parser ℕ
field most = do
  b ← byte
  holds (leb b most)
  done b

abbrev pub number_rest : List ℕ → Result (ℕ × ℕ) ℕ → Parsed ℕ
number_rest s (Err n) = refused n
number_rest s (Ok (v, used)) = parsed v (drop used s)

-- REF-30 and REF-31
unfoldable pub number : ℕ → Parser ℕ
number limit s = number_rest s (read_number limit s)
