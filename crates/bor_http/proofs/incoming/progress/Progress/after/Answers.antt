use Rattle.bor_http.proofs.OnIncoming.ProgressLemmas.{known_all, searched_of_all, whole_all}
use Rattle.bor_http.proofs.incoming.progress.Progress.after.Goals as goal

pub returns-in-Searched-clause-known : goal.returns-in-Searched-clause-known
returns-in-Searched-clause-known c = known_all c.args.bytes.now c.min.result c.search.result c.min.ensures c.search.ensures.known c.search.ensures.searched

pub returns-in-Searched-clause-whole : goal.returns-in-Searched-clause-whole
returns-in-Searched-clause-whole c =
    let bytes = c.args.bytes.now in
    whole_all bytes c.search.result (known_all bytes c.min.result c.search.result c.min.ensures c.search.ensures.known c.search.ensures.searched)
    (searched_of_all bytes c.min.result c.search.result c.min.ensures c.search.ensures.known c.search.ensures.searched)
