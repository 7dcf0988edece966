-- What calls add to the counts of a site.
use Rattle.std.specs.Prelude.{ℕ, ◌+◌, cond, ◌&&◌, List, [], ◌∷◌, ◌==◌}
use Rattle.cbsp.specs.declared.channel.Channel.{Channel}
use Rattle.cbsp.specs.Channels.{channel_code}
use Rattle.site.specs.Events.{Event}
use Rattle.site.specs.Events.Event.{switched, started, offered}

-- the broadcasts that were done in a cell on a channel
unfoldable pub done_at : ℕ → Channel → List Event → ℕ
done_at k h [] = 0
done_at k h (switched j b ∷ es) = done_at k h es
done_at k h (started ∷ es) = done_at k h es
done_at k h (offered j d m r ∷ es) = cond (r && (j == k && channel_code d == channel_code h)) 1 0 + done_at k h es
