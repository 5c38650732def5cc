-- Words that a reader gave.
use Rattle.std.specs.Prelude.{◌≡◌, ℕ, ◌*◌, ◌/◌, ◌<◌, List, Option, length, slice_index}
use Rattle.std.specs.Io.KnownBytes.{Consumes, IsAtEnd}
use Rattle.meaning.specs.Image.{number}

-- the first n words are the next that the reader had, two bytes each, low byte first, and half a word is dropped. Where they are
-- fewer than were wanted, the reader has no more
pub record WordsRead (before after : Option (List ℕ)) (words : List ℕ) (wanted n : ℕ) : Type 0 where
  pub bytes : List ℕ
  pub consumed : Consumes before after bytes
  pub count_is : n ≡ length bytes / 2
  pub words_are : (i : ℕ) → i < n → slice_index words i ≡ number bytes (2 * i)
  pub end : n < wanted → IsAtEnd after
