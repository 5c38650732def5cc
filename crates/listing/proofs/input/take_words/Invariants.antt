-- `listing::input::take_words` meets its contract. Assumes nothing.
use Rattle.std.proofs.Common.{◌≡◌, ℕ, ◌*◌, ◌<◌, ◌≤◌, length, get_or}
use Rattle.meaning.specs.Image.{number}
use Rattle.listing.proofs.input.take_words.Given as goal

abbrev pub invariant-loop-i : goal.invariant-loop-i
invariant-loop-i l = (l.count ≤ length l.words) × ((k : ℕ) → k < l.i → get_or l.words k 0 ≡ number l.bytes (2 * k))
