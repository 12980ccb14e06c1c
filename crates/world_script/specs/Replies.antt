-- How the replies of several sites are written (this project's own format), one a line.
use Rattle.std.specs.Prelude.{ℕ, List, [], ◌∷◌, ◌++◌, codes, decimal}
use Rattle.script_text.specs.Replies.{reply_text}
use Rattle.multi_site_world.specs.declared.event.WorldReply.{WorldReply}
use Rattle.multi_site_world.specs.declared.event.WorldReply.TheVariants.{Core, Sent, Restarted, Grown, NoSite, NoMessage, NoGrowth, Memory}

abbrev pub world_reply_text : WorldReply → List ℕ
world_reply_text (Core reply) = reply_text reply
world_reply_text (Sent k) = codes "sent " ++ decimal k
world_reply_text Restarted = codes "restarted"
world_reply_text Grown = codes "grown"
world_reply_text NoSite = codes "refused NoSite"
world_reply_text NoMessage = codes "refused NoMessage"
world_reply_text NoGrowth = codes "refused NoGrowth"
world_reply_text Memory = codes "refused Memory"

-- a reply on a line of its own
abbrev pub reply_line : WorldReply → List ℕ
reply_line reply = world_reply_text reply ++ 10 ∷ []

abbrev pub reply_lines : List WorldReply → List ℕ
reply_lines [] = []
reply_lines (reply ∷ rest) = reply_line reply ++ reply_lines rest
