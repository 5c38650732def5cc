-- 02, Q-3: page calls of one sitting, of whatever listings, each lent the sitting that the one before left; and the lines handed out.
use Rattle.std.specs.Prelude.{List, [], ◌∷◌, ◌+◌, ℕ, eqb, if◌then◌else◌}
use Rattle.meaning.specs.Page.{Left}
use Rattle.meaning.specs.QueryListing.{fill_page_lem}
use Rattle.meaning.specs.Report.{reported}

-- a page call with all that it is lent but the sitting
pub record PageCall : Type 0 where
  pub image : List ℕ
  pub query : List ℕ
  pub bookmark : List ℕ
  pub page : List ℕ
  pub work : List ℕ
  pub report : List ℕ

unfoldable pub called : List ℕ → PageCall → Left
called sitting c = fill_page_lem c.image c.query c.bookmark (record { sitting = sitting; page = c.page; work = c.work; report = c.report })

-- the sitting and the calls before it give what each call leaves
unfoldable pub sitting_run : List ℕ → List PageCall → List Left
sitting_run sitting [] = []
sitting_run sitting (c ∷ cs) = let f = called sitting c in f ∷ sitting_run f.sitting cs

-- the sitting that the last call left
unfoldable pub sitting_after : List ℕ → List Left → List ℕ
sitting_after sitting [] = sitting
sitting_after sitting (f ∷ fs) = sitting_after f.sitting fs

-- the count in an answer, as C is handed it; a call that returns 0 gave none
unfoldable pub lines_of : Left → ℕ
lines_of f = if eqb f.result 1 then reported 2 f.report else 0

unfoldable pub lines : List Left → ℕ
lines [] = 0
lines (f ∷ fs) = lines_of f + lines fs
