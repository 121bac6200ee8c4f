-- Characters that words are made of, by their kinds, and the word of these kinds with a number (our profile; RFC 3629 section 3).
use Rattle.std.specs.Prelude.{ℕ, ◌+◌, ◌*◌, ◌/◌, ◌%◌, nat_lt, if◌then◌else◌, List, [], ◌∷◌, reverse, Option, Some, None}
use Rattle.dia_mask.specs.declared.kinds.Kind.{Kind}
use Rattle.dia_mask.specs.declared.kinds.Kind.TheVariants.{Digit, Small, Capital, Two, Three, Four}

-- digits, ASCII letters, and characters of two to four bytes; the others are part of no word
abbrev pub kind_of : ℕ → Option Kind
kind_of c =
    if nat_lt c 48 then None else (if nat_lt c 58 then Some Digit else (if nat_lt c 65 then None else (if nat_lt c 91 then Some Capital else (if nat_lt c 97 then None
    else (if nat_lt c 123 then Some Small else (if nat_lt c 128 then None else (if nat_lt c 2048 then Some Two else (if nat_lt c 65536 then Some Three else Some Four))))))))

-- how many characters are of a kind
abbrev pub size_of : Kind → ℕ
size_of Digit = 10
size_of Small = 26
size_of Capital = 26
size_of Two = 1920
size_of Three = 61440
size_of Four = 1048576

-- the character of a kind at a place of their order, from 0; surrogates are no characters
abbrev pub character_at : Kind → ℕ → ℕ
character_at Digit n = 48 + n
character_at Small n = 97 + n
character_at Capital n = 65 + n
character_at Two n = 128 + n
character_at Three n = if nat_lt n 53248 then 2048 + n else 4096 + n
character_at Four n = 65536 + n

-- the characters with this number, the last one first: it counts ones
abbrev pub from_last : List Kind → ℕ → List ℕ
from_last [] n = []
from_last (k ∷ ks) n = character_at k (n % size_of k) ∷ from_last ks (n / size_of k)

abbrev pub word_at : List Kind → ℕ → List ℕ
word_at kinds n = reverse (from_last (reverse kinds) n)

-- how many words there are of these kinds
abbrev pub capacity : List Kind → ℕ
capacity [] = 1
capacity (k ∷ ks) = capacity ks * size_of k
