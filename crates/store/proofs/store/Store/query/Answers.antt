use Rattle.requests.specs.Requests.{reference_meant}
use Rattle.store.proofs.Answered.{query_spelt}
use Rattle.store.proofs.store.Store.query.Goals as goal

pub send-requires-clause-fits : goal.send-requires-clause-fits
send-requires-clause-fits g c =
    query_spelt c.args.self.now (g.S.Site.model c.args.site.now).opened c.handle.ensures.few _ (reference_meant c.args.request) c.key_by-key.result _ _ _
    c.requires.fits c.handle.ensures.ran c.completed.ensures c.failed.ensures c.query_reply-reply.ensures
