use Rattle.requests.specs.Requests.{reset_meant}
use Rattle.store.proofs.Answered.{reset_spelt}
use Rattle.store.proofs.store.Store.reset.Goals as goal

pub send-requires-clause-fits : goal.send-requires-clause-fits
send-requires-clause-fits g c =
    reset_spelt c.args.self.now (g.S.Site.model c.args.site.now).opened c.handle.ensures.few _ (reset_meant c.args.request) _ _ _ c.requires.fits
    c.handle.ensures.ran c.begun.ensures c.failed.ensures c.reset_reply-reply.ensures
