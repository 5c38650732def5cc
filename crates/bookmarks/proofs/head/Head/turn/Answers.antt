-- `bookmarks::Head::turn` meets its contract: by the length, and if it is the bookmark's, by the start. Assumes nothing.
use Rattle.bookmarks.specs.Turns.{TurnTo}
use Rattle.bookmarks.specs.declared.turn.Turn.TheVariants.{On}
use Rattle.bookmarks.proofs.HeadWays.{turn_length, turn_start}
use Rattle.bookmarks.proofs.head.Head.turn.Goals as goal

pub returns-in-On : goal.returns-in-On
returns-in-On c = let e : TurnTo c.args.self.n c.args.n On = c.in-On.ensures in turn_start e c.turn_to-in-On.ensures

pub returns-in_default : goal.returns-in_default
returns-in_default c = turn_length c.turn_to.ensures c.in_default.not-On
