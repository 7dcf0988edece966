use Rattle.requests.specs.Requests.{reference_meant}
use Rattle.store.proofs.Answered.{kill_spelt}
use Rattle.store.proofs.store.Store.kill.Goals as goal

pub send-requires-clause-fits : goal.send-requires-clause-fits
send-requires-clause-fits g c =
    kill_spelt c.args.self.now (g.S.Site.model c.args.site.now).opened c.handle.ensures.few _ (reference_meant c.args.request) c.key_by-key.result _ _ _
    c.requires.fits c.handle.ensures.ran c.completed.ensures c.failed.ensures c.kill_reply-reply.ensures
