use Rattle.zoned_cron.proofs.FiringLists.{gives_found, goes_found}
use Rattle.zoned_cron.proofs.search.firings.FiringsIterator.next.Goals as goal

pub returns-clause-steps : goal.returns-clause-steps
returns-clause-steps g c =
    let found = c.first_by-self-inside in
    gives_found g.Z.TimeZone.ahead c.args.self.now c.self.inside.schedule c.self.inside.last c.in_ok-start.start c.naive_utc-utc.result found.result c.self.view_is c.in_ok-start.was c.naive_utc-utc.ensures found.ensures

pub returns-clause-goes : goal.returns-clause-goes
returns-clause-goes g c =
    let found = c.first_by-self-inside in
    goes_found g.Z.TimeZone.ahead c.args.self.now c.self.inside.schedule c.self.inside.last c.in_ok-start.start c.naive_utc-utc.result found.result c.self.view_is c.in_ok-start.was c.naive_utc-utc.ensures c.date_times_exist.ensures found.ensures
