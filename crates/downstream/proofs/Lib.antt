mod Places
mod Foreign
