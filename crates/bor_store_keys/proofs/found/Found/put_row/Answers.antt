use Rattle.std.proofs.Common.{◌≡◌}
use Rattle.std.proofs.lemmas.Result.{on_ok_weaker}
use Rattle.std.specs.BTreeMap.{get}
use Rattle.bor_records.specs.Links.Nodes.{node_cmp}
use Rattle.bor_records.specs.Links.Series.{open_at}
use Rattle.bor_records.proofs.OnLinks.Exact.{exact_node}
use Rattle.bor_store_keys.specs.Viewed.{rows_seen}
use Rattle.bor_store_keys.proofs.Holding.{one_more}
use Rattle.bor_store_keys.proofs.found.Found.put_row.Goals as goal

pub returns : goal.returns
returns c = on_ok_weaker c.put_place-placed.result
    (λ placed r stored of is. record {
      today = of.today;
      filings = of.filings;
      rows = one_more node_cmp exact_node (λ n row. row ≡ open_at c.args.self.now.view.day n (rows_seen c.args.self.now.view r))
          (get node_cmp c.args.self.now.rows) (get node_cmp c.insert.new.self) c.args.node c.args.row c.in_ok-insert.ensures.updates.0 is of.rows;
      places = placed r c.args.self.now.view stored of.places is;
      lists = of.lists;
    })
    c.put_place-placed.ensures
