-- The words of a query of one part, written into words that are lent. Assumes nothing.
use Rattle.std.proofs.Common.{◌≡◌, ℕ, ◌+◌, ◌≤◌, List, [], ◌∷◌, ◌++◌, length, take, drop, ap, sym, ◌∙◌, arith, length-append}
use Rattle.std.proofs.lemmas.List.{length-take-le}
use Rattle.meaning.proofs.Lists.{take_front}
use Rattle.meaning.specs.QueryWords.{alone}
use Rattle.printing.specs.Counts.{IsPrefixLen}
use Rattle.printing.specs.Run.{Asks, OnePart}

prefix_len_of_le : (n : ℕ) (xs : List ℕ) → n ≤ length xs → IsPrefixLen n xs
prefix_len_of_le n xs h = (h, sym (length-take-le n xs h))

-- its head, then the pattern behind it
pub asks : (d m w pattern : List ℕ) (n : ℕ) → m ≡ take 0 d ++ (1 ∷ n ∷ 0 ∷ length pattern ∷ []) ++ drop 4 d → w ≡ take 4 m ++ pattern ++ drop (4 + length pattern) m → Asks w (4 + length pattern) n pattern
asks d m w pattern n h e =
    let rest : List ℕ = drop (4 + length pattern) m in
    let q : w ≡ alone n pattern ++ rest = e ∙ ap (λ (l : List ℕ). take 4 l ++ pattern ++ rest) h in
    let z : length w ≡ length (alone n pattern) + length rest = ap length q ∙ length-append (alone n pattern) rest in
    record { counts = prefix_len_of_le _ _ (omega (arith, z)); is = ap (take (4 + length pattern)) q ∙ take_front (4 + length pattern) (alone n pattern) rest (omega arith) }

pub asks_one_part : (words : List ℕ) (r n : ℕ) (pattern : List ℕ) → Asks words r n pattern → OnePart (take r words)
asks_one_part words r n pattern h = record { restrictor = n; pattern = pattern; is = h.is }
