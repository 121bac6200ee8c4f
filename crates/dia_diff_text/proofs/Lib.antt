mod AddedTexts
mod Places
mod SameParts
