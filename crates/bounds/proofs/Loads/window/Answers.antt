-- `bounds::Loads::window` meets its contract: it is one search, begun at the row's C.
use Rattle.bounds.proofs.Sides.{own_begins}
use Rattle.bounds.proofs.Loads.window.Goals as goal

pub search-requires-clause-from_bound : goal.search-requires-clause-from_bound
search-requires-clause-from_bound c = own_begins _ _ _ c.args.self.summable c.requires.some
