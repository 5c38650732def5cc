-- The words that the bytes hold are those of the bytes that were read. Assumes nothing.
use Rattle.std.proofs.Common.{◌≡◌, ℕ, suc, ◌+◌, ◌*◌, ◌/◌, ◌<◌, ◌≤◌, Option, List, length, take, get_or, sym, ap₂, ◌∙◌, arith, length-take-le}
use Rattle.std.proofs.lemmas.List.{get_or-take}
use Rattle.std.specs.Io.KnownBytes.{Consumes, IsAtEnd}
use Rattle.meaning.specs.Image.{number}
use Rattle.listing.specs.Words.{WordsRead}
use Rattle.listing.proofs.input.read_pattern.Goals as goal

number_front : (bs : List ℕ) (k i : ℕ) → suc i < k → number bs i ≡ number (take k bs) i
unfolding number
number_front bs k i h =
    let l : i < k = omega arith in
    sym (ap₂ (λ a b. a + 256 * b) (get_or-take k bs i 0 l) (get_or-take k bs (suc i) 0 h))

words_read : (before after : Option (List ℕ)) (bs words : List ℕ) (wanted k : ℕ) → k ≤ length bs → Consumes before after (take k bs)
    → ((i : ℕ) → i < k / 2 → get_or words i 0 ≡ number bs (2 * i)) → (k / 2 < wanted → IsAtEnd after) → WordsRead before after words wanted (k / 2)
words_read before after bs words wanted k h p w e =
    let long : length (take k bs) ≡ k = length-take-le k bs h in
    record { bytes = take k bs; consumed = p; count_is = omega (arith, long); words_are = λ i l. w i l ∙ number_front bs k (2 * i) (omega arith); end = e }

pub returns-clause-next : goal.returns-clause-next
returns-clause-next g c =
    let found = c.in_ok-count.ensures in
    words_read _ _ c.read.new.bytes _ _ c.in_ok-count.field-0 (omega (arith, found.within)) found.next c.take_words.ensures.each (λ l. found.end (omega arith))
