use Rattle.bor_wire.proofs.HeadlineLaws.{invisible_in_exchanges}
use Rattle.bor_wire.proofs.laws.exchanges_keep_drafts_invisible.Goals as goal

pub returns : goal.returns
returns g c = invisible_in_exchanges g.K.Keep.meaning.shows
